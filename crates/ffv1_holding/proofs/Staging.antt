-- Entries that are put in order, each slice once.
use Rattle.std.proofs.Common.{◌≡◌, ℕ, zero, suc, ◌<◌, Bool, true, false, ◌||◌, cond, List, [], ◌∷◌, length, map, get_or, sym, refl, ap, ◌∙◌, arith}
use Rattle.std.specs.List.{list_any, AllByRecursion, Contains, dedup, dedup_from}
use Rattle.std.specs.List.Sorted.{IsPermutation, IsSorted, IsStrictlySortedBy}
use Rattle.std.specs.Ordering.{is_lt, eq_by_cmp}
use Rattle.std.specs.Cmp.{IsTotalOrder, IsStrictWeakOrder, on_total, Equal-is}
use Rattle.std.specs.declared.cmp.Ordering.{Ordering}
use Rattle.std.specs.declared.cmp.Ordering.TheVariants.{Less}
use Rattle.std.proofs.lemmas.List.{get_or_default}
use Rattle.std.proofs.lemmas.List.Sorted.{list_any-IsPermutation, IsPermutation-sym, Contains-permutation, ranks_by}
use Rattle.std.proofs.lemmas.List.Kept.{IsStrictlySortedBy-dedup, Contains-from_dedup}
use Rattle.ffv1_holding.specs.SliceOrder.{Entry, entry_cmp, entries_total, entries_antisymmetric}
use Rattle.ffv1_holding.specs.Sets as set
use Rattle.ffv1_holding.specs.Rising.{IsRising}
use Rattle.ffv1_holding.specs.Inner.PoolEntries.{entry_in, AreEntriesIn, IsPool}
use Rattle.ffv1_holding.specs.declared.pool_entry.PoolEntry.{PoolEntry}

-- how two entries in the same bytes are ordered
abbrev pub cmp_in : List ℕ → PoolEntry → PoolEntry → Ordering
cmp_in bytes x y = entry_cmp (entry_in bytes x) (entry_in bytes y)

cmp_total : (bytes : List ℕ) → IsTotalOrder (cmp_in bytes)
cmp_total bytes = on_total (entry_in bytes) entries_total

pub strict_in : (bytes : List ℕ) → IsStrictWeakOrder (λ x y. is_lt (cmp_in bytes x y))
strict_in bytes = ranks_by entries_total (entry_in bytes)

module _ (bytes : List ℕ) where
  below_at : (x : PoolEntry) (xs : List PoolEntry) → AllByRecursion (λ y. cmp_in bytes x y ≡ Less) xs → (j : ℕ) (d : Entry) → j < length xs
      → entry_cmp (entry_in bytes x) (get_or (map (entry_in bytes) xs) j d) ≡ Less
  below_at x [] all j d lt = absurd (omega arith)
  below_at x (y ∷ xs) all zero d lt = all.0
  below_at x (y ∷ xs) all (suc j) d lt = below_at x xs all.1 j d (omega arith)

  map_long : (xs : List PoolEntry) → length (map (entry_in bytes) xs) ≡ length xs
  map_long [] = refl
  map_long (x ∷ xs) = ap suc (map_long xs)

  rising_strict : (xs : List PoolEntry) → IsStrictlySortedBy (cmp_in bytes) xs → IsRising entry_cmp (map (entry_in bytes) xs)
  unfolding IsStrictlySortedBy
  rising_strict [] up i j d lt in_range = absurd (omega arith)
  rising_strict (x ∷ xs) up zero zero d lt in_range = absurd (omega arith)
  rising_strict (x ∷ xs) up zero (suc j) d lt in_range = below_at x xs up.0 j d (omega (arith, map_long xs))
  rising_strict (x ∷ xs) up (suc i) zero d lt in_range = absurd (omega arith)
  rising_strict (x ∷ xs) up (suc i) (suc j) d lt in_range = rising_strict xs up.1 i j d (omega arith) (omega arith)

  any-map : (p : Entry → Bool) (xs : List PoolEntry) → list_any p (map (entry_in bytes) xs) ≡ list_any (λ e. p (entry_in bytes e)) xs
  any-map p [] = refl
  any-map p (x ∷ xs) = ap (λ b. p (entry_in bytes x) || b) (any-map p xs)

or_again : (a b : Bool) → (a || b) ≡ (a || (a || b))
or_again true b = refl
or_again false b = refl

module _ {X : Type 0} (same : X → X → Bool) (p : X → Bool) (alike : (x y : X) → same x y ≡ true → p x ≡ p y) where
  any-dedup_from : (k : X) (xs : List X) → list_any p (dedup_from same k xs) ≡ (p k || list_any p xs)
  any-dedup_from k [] = refl
  any-dedup_from k (x ∷ xs) = elim (same x k) as (λ b. same x k ≡ b
      → list_any p (cond b (dedup_from same k xs) (k ∷ dedup_from same x xs)) ≡ (p k || (p x || list_any p xs))) [
        | true ↦ λ is. any-dedup_from k xs ∙ or_again (p k) (list_any p xs) ∙ ap (λ b. p k || (b || list_any p xs)) (sym (alike x k is))
        | false ↦ λ is. ap (λ b. p k || b) (any-dedup_from x xs)
      ] refl

  -- of each slice one is left
  any-dedup : (xs : List X) → list_any p (dedup same xs) ≡ list_any p xs
  any-dedup [] = refl
  any-dedup (x ∷ xs) = any-dedup_from x xs

module _ (bytes : List ℕ) (old sorted : List PoolEntry) (moved : IsPermutation old sorted) where
  alike : (q : Entry) (x y : PoolEntry) → eq_by_cmp (cmp_in bytes) x y ≡ true
      → eq_by_cmp entry_cmp q (entry_in bytes x) ≡ eq_by_cmp entry_cmp q (entry_in bytes y)
  alike q x y is = ap (eq_by_cmp entry_cmp q) (entries_antisymmetric (entry_in bytes x) (entry_in bytes y)
      ((Equal-is (entry_cmp (entry_in bytes x) (entry_in bytes y))).0 is))

  pub staged_same : set.from_list {R = entry_cmp} (map (entry_in bytes) (dedup (λ x y. eq_by_cmp (cmp_in bytes) x y) sorted)) ≡ set.from_list
      (map (entry_in bytes) old)
  staged_same = set.same_set entries_total entries_antisymmetric _ _ (λ q.
      set.contains-from_list entries_total (map (entry_in bytes) (dedup (λ x y. eq_by_cmp (cmp_in bytes) x y) sorted)) q
      ∙ any-map bytes (eq_by_cmp entry_cmp q) (dedup (λ x y. eq_by_cmp (cmp_in bytes) x y) sorted)
      ∙ any-dedup (λ x y. eq_by_cmp (cmp_in bytes) x y) (λ e. eq_by_cmp entry_cmp q (entry_in bytes e)) (alike q) sorted
      ∙ sym (list_any-IsPermutation (λ e. eq_by_cmp entry_cmp q (entry_in bytes e)) old sorted moved)
      ∙ sym (any-map bytes (eq_by_cmp entry_cmp q) old) ∙ sym (set.contains-from_list entries_total (map (entry_in bytes) old) q))

  staged_each : AreEntriesIn bytes old → AreEntriesIn bytes (dedup (λ x y. eq_by_cmp (cmp_in bytes) x y) sorted)
  staged_each each i d lt =
      let kept = dedup (λ x y. eq_by_cmp (cmp_in bytes) x y) sorted in
      let e = get_or kept i d in
      let here : Contains kept e = (i, lt, get_or_default kept i e d lt) in
      let there = Contains-permutation sorted old e (IsPermutation-sym old sorted moved)
      (Contains-from_dedup (λ x y. eq_by_cmp (cmp_in bytes) x y) sorted e here) in
      rw (← there.2) (each there.0 e there.1)

  pub staged_pool : AreEntriesIn bytes old → IsSorted (cmp_in bytes) sorted → IsPool bytes (dedup (λ x y. eq_by_cmp (cmp_in bytes) x y) sorted)
  staged_pool each up = record {
    each = staged_each each;
    rising = rising_strict bytes (dedup (λ x y. eq_by_cmp (cmp_in bytes) x y) sorted) (IsStrictlySortedBy-dedup (cmp_total bytes) (λ x y. refl) sorted up);
  }
