-- One slice, or one row, more is found to be new, or is held.
use Rattle.std.proofs.Common.{◌≡◌, ℕ, ◌+◌, ◌<◌, ◌≤◌, List, [], ◌∷◌, ◌++◌, length, map, get_or, sym, refl, ap, subst, ◌∙◌, arith}
use Rattle.std.specs.List.{zip}
use Rattle.std.proofs.lemmas.List.{length-map, get_or-map, map-append, take_all}
use Rattle.ffv1_holding.specs.SliceOrder.{Entry, Origin, entry_cmp, origin_cmp, entries_total, entries_antisymmetric, origins_total, origins_antisymmetric}
use Rattle.ffv1_holding.specs.Sets as set
use Rattle.ffv1_holding.specs.Inner.Rising.{IsInsertionPlace, IsPlaceOf}
use Rattle.ffv1_holding.specs.Inner.PoolEntries.{entry_in, IsEntryIn, IsPool}
use Rattle.ffv1_holding.specs.Inner.Fresh.{fresh_in, AreFresh, AreAllFresh}
use Rattle.ffv1_holding.specs.Inner.Rows.{rows_in, IsRows, fresh_origin, fresh_rows_in, AreFreshRows}
use Rattle.ffv1_holding.specs.declared.pool_entry.PoolEntry.{PoolEntry}
use Rattle.ffv1_holding.specs.declared.fresh.Fresh.{Fresh}
use Rattle.ffv1_holding.proofs.Sifting.{each-push, AreSifted, none_sifted, sifted_held, sifted_new}
use Rattle.ffv1_holding.proofs.RowLists.{zip-append, length-rows, get_or-rows}

-- of the entries before a place, just those are listed whose slices are not held
pub record IsSifted (held : List Entry) (bytes : List ℕ) (es : List PoolEntry) (place : ℕ) (fresh : List (Fresh PoolEntry)) : Type 0 where
  pub each : (i : ℕ) (d : Fresh PoolEntry) → i < length fresh → IsEntryIn bytes (get_or fresh i d).item
  pub sifted : AreSifted entry_cmp (λ f. f.place) (fresh_in bytes) held (map (entry_in bytes) es) place fresh

module _ (held : List Entry) (bytes : List ℕ) (es : List PoolEntry) where
  pub none_fresh : IsSifted held bytes es 0 []
  none_fresh = record {
    each = λ i d lt. absurd (omega arith);
    sifted = none_sifted entries_total entries_antisymmetric (λ f. f.place) (fresh_in bytes) held (map (entry_in bytes) es);
  }

  module _ (place : ℕ) (d : PoolEntry) (fresh : List (Fresh PoolEntry)) (lt : place < length es) (is : IsSifted held bytes es place fresh) where
    there : place < length (map (entry_in bytes) es)
    there = omega (arith, length-map es (entry_in bytes))

    entry_at : get_or (map (entry_in bytes) es) place (entry_in bytes d) ≡ entry_in bytes (get_or es place d)
    entry_at = get_or-map (entry_in bytes) es place d (entry_in bytes d) lt

    pub entry_held : (at : ℕ) → IsPlaceOf held (entry_in bytes (get_or es place d)) at → IsSifted held bytes es (place + 1) fresh
    entry_held at found = record {
      each = is.each;
      sifted = sifted_held entries_total entries_antisymmetric (λ f. f.place) (fresh_in bytes) held
          (map (entry_in bytes) es) place (entry_in bytes d) fresh there
          is.sifted at (subst (λ v. IsPlaceOf held v at) (sym entry_at) found);
    }

    pub entry_new : IsPool bytes es → (at : ℕ) → IsInsertionPlace entry_cmp held (entry_in bytes (get_or es place d)) at
        → IsSifted held bytes es (place + 1) (fresh ++ record { place = at; item = get_or es place d } ∷ [])
    entry_new pool at gap =
        let new : Fresh PoolEntry = record { place = at; item = get_or es place d } in
        record {
          each = each-push (λ (f : Fresh PoolEntry). IsEntryIn bytes f.item) fresh new is.each (pool.each place d lt);
          sifted = sifted_new entries_total entries_antisymmetric (λ f. f.place) (fresh_in bytes) held (map (entry_in bytes) es) place (entry_in bytes d) fresh
              there is.sifted pool.rising new (sym entry_at) gap;
        }

  pub entries_sifted : (place : ℕ) (fresh : List (Fresh PoolEntry)) → length es ≤ place → IsSifted held bytes es place fresh
      → AreFresh held bytes fresh × AreAllFresh entry_cmp held (map (entry_in bytes) es) (map (fresh_in bytes) fresh)
  entries_sifted place fresh le is = (
    record { each = is.each; gaps = is.sifted.gaps; rising = is.sifted.rising },
    is.sifted.all ∙ ap (λ xs. set.union (set.from_list {R = entry_cmp} held) (set.from_list xs))
        (take_all place (map (entry_in bytes) es) (omega (arith, length-map es (entry_in bytes)))),
  )

-- of the rows before a place, just those are listed that are not held
pub record AreRowsSifted (held : List Origin) (bytes : List ℕ) (os : List PoolEntry) (ds : List (List ℕ)) (place : ℕ) (owners : List (Fresh PoolEntry))
    (digests : List (Fresh (List ℕ))) : Type 0 where
  pub places : map (λ f. f.place) digests ≡ map (λ f. f.place) owners
  pub sifted : AreSifted origin_cmp (λ f. f.0.place) (fresh_origin bytes) held (rows_in bytes os ds) place (zip owners digests)

module _ (held : List Origin) (bytes : List ℕ) (os : List PoolEntry) (ds : List (List ℕ)) (rows : IsRows bytes os ds) where
  pub no_row_fresh : AreRowsSifted held bytes os ds 0 [] []
  no_row_fresh = record {
    places = refl;
    sifted = none_sifted origins_total origins_antisymmetric (λ f. f.0.place) (fresh_origin bytes) held (rows_in bytes os ds);
  }

  module _ (place : ℕ) (d : PoolEntry) (x : List ℕ) (owners : List (Fresh PoolEntry)) (digests : List (Fresh (List ℕ))) (lt : place < length os)
      (is : AreRowsSifted held bytes os ds place owners digests) where
    row_there : place < length (rows_in bytes os ds)
    row_there = omega (arith, length-rows bytes os ds rows.long)

    abbrev row : Origin
    row = (entry_in bytes (get_or os place d), get_or ds place x)

    row_at : (e : Origin) → get_or (rows_in bytes os ds) place e ≡ row
    row_at e = get_or-rows bytes os ds rows.long place e d x lt

    pub row_held : (at : ℕ) → IsPlaceOf held (entry_in bytes (get_or os place d), get_or ds place x) at
        → AreRowsSifted held bytes os ds (place + 1) owners digests
    row_held at found = record {
      places = is.places;
      sifted = sifted_held origins_total origins_antisymmetric (λ f. f.0.place) (fresh_origin bytes) held (rows_in bytes os ds) place row (zip owners digests)
          row_there is.sifted at (subst (λ v. IsPlaceOf held v at) (sym (row_at row)) found);
    }

    pub row_new : (at : ℕ) → IsInsertionPlace origin_cmp held (entry_in bytes (get_or os place d), get_or ds place x) at
        → AreRowsSifted held bytes os ds (place + 1) (owners ++ record { place = at; item = get_or os place d } ∷ [])
        (digests ++ record { place = at; item = get_or ds place x } ∷ [])
    row_new at gap =
        let owner : Fresh PoolEntry = record { place = at; item = get_or os place d } in
        let digest : Fresh (List ℕ) = record { place = at; item = get_or ds place x } in
        let long : length digests ≡ length owners =
        omega (arith, ap length is.places, length-map digests (λ f. f.place), length-map owners (λ f. f.place)) in
        let both = zip-append owners (owner ∷ []) digests (digest ∷ []) long in
        record {
          places = map-append (λ f. f.place) digests (digest ∷ []) ∙ ap (λ ps. ps ++ at ∷ []) is.places ∙ sym (map-append (λ f. f.place) owners (owner ∷ []));
          sifted = subst (AreSifted origin_cmp (λ f. f.0.place) (fresh_origin bytes) held (rows_in bytes os ds) (place + 1)) (sym both)
              (sifted_new origins_total origins_antisymmetric (λ f. f.0.place) (fresh_origin bytes) held (rows_in bytes os ds) place row (zip owners digests)
              row_there is.sifted rows.rising (owner, digest) (sym (row_at row)) gap);
        }

  pub rows_sifted : (place : ℕ) (owners : List (Fresh PoolEntry)) (digests : List (Fresh (List ℕ))) → length os ≤ place
      → AreRowsSifted held bytes os ds place owners digests
      → AreFreshRows held bytes owners digests × AreAllFresh origin_cmp held (rows_in bytes os ds) (fresh_rows_in bytes owners digests)
  rows_sifted place owners digests le is = (
    record { places = is.places; gaps = is.sifted.gaps; rising = is.sifted.rising },
    is.sifted.all ∙ ap (λ xs. set.union (set.from_list {R = origin_cmp} held) (set.from_list xs))
        (take_all place (rows_in bytes os ds) (omega (arith, length-rows bytes os ds rows.long))),
  )
