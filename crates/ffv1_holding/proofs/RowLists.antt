-- Rows at their places.
use Rattle.std.proofs.Common.{◌≡◌, ℕ, ◌<◌, List, [], ◌∷◌, ◌++◌, length, get_or, sym, refl, ap, ◌∙◌, inl, inr, ◌⊎◌, arith}
use Rattle.std.specs.List.{zip}
use Rattle.std.specs.Ordering.{ordering_then}
use Rattle.std.specs.declared.cmp.Ordering.{Ordering}
use Rattle.std.specs.declared.cmp.Ordering.TheVariants.{Less, Equal, Greater}
use Rattle.std.proofs.lemmas.List.{length-map, get_or-map}
use Rattle.std.proofs.lemmas.Slice.Zip.{length-zip, get_or-zip}
use Rattle.ffv1_holding.specs.SliceOrder.{Origin, entry_cmp, bytes_cmp, entries_antisymmetric}
use Rattle.ffv1_holding.specs.Inner.PoolEntries.{entry_in}
use Rattle.ffv1_holding.specs.Inner.Rows.{rows_in, IsRows}
use Rattle.ffv1_holding.specs.declared.pool_entry.PoolEntry.{PoolEntry}

pub zip-append : {X Y : Type 0} (xs more : List X) (ys others : List Y) → length ys ≡ length xs → zip (xs ++ more) (ys ++ others) ≡ zip xs ys ++ zip more others
zip-append [] more [] others long = refl
zip-append [] more (y ∷ ys) others long = absurd (omega arith)
zip-append (x ∷ xs) more [] others long = absurd (omega arith)
zip-append (x ∷ xs) more (y ∷ ys) others long = ap (λ r. (x, y) ∷ r) (zip-append xs more ys others (omega arith))

module _ (bytes : List ℕ) (os : List PoolEntry) (ds : List (List ℕ)) (long : length ds ≡ length os) where
  abbrev row : PoolEntry × List ℕ → Origin
  row r = (entry_in bytes r.0, r.1)

  pub length-rows : length (rows_in bytes os ds) ≡ length os
  length-rows = omega (arith, length-map (zip os ds) row, length-zip os ds, long)

  pub get_or-rows : (i : ℕ) (d : Origin) (e : PoolEntry) (x : List ℕ) → i < length os
      → get_or (rows_in bytes os ds) i d ≡ (entry_in bytes (get_or os i e), get_or ds i x)
  get_or-rows i d e x lt =
      let in_zip : i < length (zip os ds) = omega (arith, length-zip os ds, long) in
      get_or-map row (zip os ds) i (e, x) d in_zip ∙ ap row (get_or-zip os ds i (e, x) lt (omega (arith, long)))

pub first_less : (a b : Ordering) → ordering_then a b ≡ Less → (a ≡ Less) ⊎ (a ≡ Equal)
first_less Less b e = inl refl
first_less Equal b e = inr refl
first_less Greater b e = absurd (cc)

pub then_less : (a b : Ordering) → ordering_then a b ≡ Less → a ≡ Equal → b ≡ Less
then_less a b less same = sym (ap (λ o. ordering_then o b) same) ∙ less

module _ (bytes : List ℕ) (os : List PoolEntry) (ds : List (List ℕ)) (rows : IsRows bytes os ds) where
  rows_rise : (i j : ℕ) (e : PoolEntry) (x : List ℕ) → i < j → j < length os
      → ordering_then (entry_cmp (entry_in bytes (get_or os i e)) (entry_in bytes (get_or os j e))) (bytes_cmp (get_or ds i x) (get_or ds j x)) ≡ Less
  rows_rise i j e x lt in_range =
      let d : Origin = (entry_in bytes e, x) in
      let size = length-rows bytes os ds rows.long in
      let at_i = get_or-rows bytes os ds rows.long i d e x (omega arith) in
      let at_j = get_or-rows bytes os ds rows.long j d e x in_range in
      (λ k. ordering_then (entry_cmp (sym at_i k).0 (sym at_j k).0) (bytes_cmp (sym at_i k).1 (sym at_j k).1)) ∙ rows.rising i j d lt (omega arith)

  -- the owners' slices do not fall
  pub owners_rise : (i j : ℕ) (e : PoolEntry) → i < j → j < length os
      → (entry_cmp (entry_in bytes (get_or os i e)) (entry_in bytes (get_or os j e)) ≡ Less) ⊎ (entry_in bytes (get_or os i e) ≡ entry_in bytes (get_or os j e))
  owners_rise i j e lt in_range = elim (first_less _ _ (rows_rise i j e [] lt in_range)) [
    | inl less ↦ inl less
    | inr same ↦ inr (entries_antisymmetric _ _ same)
  ]

  -- and where they are the same, the digests rise
  pub digests_rise : (i j : ℕ) (e : PoolEntry) (x : List ℕ) → i < j → j < length os
      → entry_cmp (entry_in bytes (get_or os i e)) (entry_in bytes (get_or os j e)) ≡ Equal → bytes_cmp (get_or ds i x) (get_or ds j x) ≡ Less
  digests_rise i j e x lt in_range same = then_less _ _ (rows_rise i j e x lt in_range) same
