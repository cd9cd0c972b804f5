-- A pool with new slices after its bytes and their entries among its own.
use Rattle.std.proofs.Common.{◌≡◌, ℕ, ◌<◌, ◌≤◌, List, ◌++◌, length, map, take, drop, get_or, sym, ap, subst, ◌∙◌, arith}
use Rattle.std.specs.List.Sorted.{IsNonDecreasingBy}
use Rattle.std.proofs.Math.Seq.{take-append_seam}
use Rattle.std.proofs.lemmas.List.{same_lists, length-map, get_or-map}
use Rattle.ffv1_holding.specs.SliceOrder.{entry_cmp, entries_total, entries_antisymmetric}
use Rattle.ffv1_holding.specs.Sets as set
use Rattle.ffv1_holding.specs.Rising.{IsRising}
use Rattle.ffv1_holding.specs.Inner.Rising.{IsInsertionPlace}
use Rattle.ffv1_holding.specs.Inner.PoolEntries.{entry_in, IsEntryIn, IsPool}
use Rattle.ffv1_holding.specs.Inner.Fresh.{fresh_in, AreFresh, AreMoved, with_inserted, with_fresh}
use Rattle.ffv1_holding.specs.declared.pool_entry.PoolEntry.{PoolEntry}
use Rattle.ffv1_holding.specs.declared.fresh.Fresh.{Fresh}
use Rattle.ffv1_holding.proofs.Pools.{pool_kept, entries_kept}
use Rattle.ffv1_holding.proofs.Insertions.{places_rise, rising-with_inserted, from_list-with_inserted, map-with_inserted, each-with_inserted}

-- a list that was written whole through a borrow
pub take-written : {X : Type 0} (xs ys : List X) (n : ℕ) → length xs ≡ n → take n (xs ++ drop (length xs) ys) ≡ xs
take-written xs ys n long = ap (λ k. take k (xs ++ drop (length xs) ys)) (sym long) ∙ take-append_seam xs (drop (length xs) ys)

-- entries that were moved through a borrow are those that it lent
pub moved_of : (from old_bytes bytes : List ℕ) (lent old new : List (Fresh PoolEntry)) → lent ≡ old → AreMoved from old_bytes bytes lent new
    → AreMoved from old_bytes bytes old new
moved_of from old_bytes bytes lent old new same is = rw (← same) is

some_fresh : Fresh PoolEntry
some_fresh = record { place = 0; item = record { tile = 0; start = 0; length = 0 } }

module _ (bytes : List ℕ) (es : List PoolEntry) (pool : IsPool bytes es) where
  -- bytes after those of the pool change nothing
  pub pool_after : (next : List ℕ) → ((more : List ℕ) × (next ≡ bytes ++ more)) → IsPool next es
  pool_after next is = subst (λ b. IsPool b es) (sym is.1) (pool_kept bytes is.0 es pool)

  pub entries_after : (next : List ℕ) → ((more : List ℕ) × (next ≡ bytes ++ more)) → map (entry_in next) es ≡ map (entry_in bytes) es
  entries_after next is = ap (λ b. map (entry_in b) es) is.1 ∙ entries_kept bytes is.0 es pool.each

  module _ (from next : List ℕ) (old new : List (Fresh PoolEntry)) (fresh : AreFresh (map (entry_in bytes) es) from old)
      (moved : AreMoved from bytes next old new) where
    map_moved : map (fresh_in next) new ≡ map (fresh_in from) old
    map_moved =
        let long = length-map new (fresh_in next) in
        let was = length-map old (fresh_in from) in
        same_lists (map (fresh_in next) new) (map (fresh_in from) old) (omega (arith, moved.long))
        (λ i d lt. get_or-map (fresh_in next) new i some_fresh d (omega arith)
        ∙ (moved.each i some_fresh (omega (arith, moved.long))).same ∙ sym (get_or-map (fresh_in from) old i some_fresh d (omega (arith, moved.long))))

    gaps : (i : ℕ) (d : Fresh PoolEntry) → i < length new → IsInsertionPlace entry_cmp (map (entry_in bytes) es) (fresh_in next (get_or new i d)) (get_or new i d).place
    gaps i d lt =
        let is = moved.each i d (omega (arith, moved.long)) in
        rw (is.same, is.place) (fresh.gaps i d (omega (arith, moved.long)))

    rising : IsRising entry_cmp (map (fresh_in next) new)
    rising = subst (IsRising entry_cmp) (sym map_moved) fresh.rising

    pub places_within : (i : ℕ) (d : Fresh PoolEntry) → i < length new → (get_or new i d).place ≤ length es
    places_within i d lt = let le = (gaps i d lt).in_range in omega (arith, length-map es (entry_in bytes))

    pub places_in_order : IsNonDecreasingBy (λ (f : Fresh PoolEntry). f.place) new
    places_in_order = places_rise entries_total (λ (f : Fresh PoolEntry). f.place) (fresh_in next) (map (entry_in bytes) es) new gaps rising

    later : map (entry_in next) es ≡ map (entry_in bytes) es
    later = entries_after next (moved.more, moved.later)

    listed : map (entry_in next) (with_fresh new es) ≡ with_inserted (λ (f : Fresh PoolEntry). f.place) (fresh_in next) new (map (entry_in bytes) es)
    listed =
        map-with_inserted (λ (f : Fresh PoolEntry). f.place) (λ f. f.item) (entry_in next) new es
        ∙ ap (with_inserted (λ (f : Fresh PoolEntry). f.place) (fresh_in next) new) later

    pub pool_grown : IsPool next (with_fresh new es)
    pool_grown = record {
      each = each-with_inserted (λ (f : Fresh PoolEntry). f.place) (λ f. f.item) (IsEntryIn next) new es places_within
          (pool_after next (moved.more, moved.later)).each (λ j d lt. (moved.each j d (omega (arith, moved.long))).lies);
      rising = subst (IsRising entry_cmp) (sym listed)
          (rising-with_inserted entries_total (λ (f : Fresh PoolEntry). f.place) (fresh_in next) (map (entry_in bytes) es) new pool.rising gaps rising);
    }

    pub view_grown : set.from_list {R = entry_cmp} (map (entry_in next) (with_fresh new es)) ≡ set.union (set.from_list (map (entry_in bytes) es))
        (set.from_list (map (fresh_in from) old))
    view_grown =
        ap set.from_list listed
        ∙ from_list-with_inserted entries_total (λ (f : Fresh PoolEntry). f.place) (fresh_in next) (map (entry_in bytes) es) entries_antisymmetric new
        ∙ ap (λ xs. set.union (set.from_list {R = entry_cmp} (map (entry_in bytes) es)) (set.from_list xs)) map_moved
