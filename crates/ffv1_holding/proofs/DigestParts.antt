-- The digests of a slice are those of its part of the rows.
use Rattle.std.proofs.Common.{◌≡◌, ℕ, suc, ◌+◌, ◌-◌, ◌<◌, ◌≤◌, Bool, true, false, cond, List, [], ◌∷◌, ◌++◌, length, map, take, drop, get_or, sym, refl, ap, ◌∙◌, arith}
use Rattle.std.specs.List.{filter}
use Rattle.std.specs.Ordering.{is_eq, eq_by_cmp, ordering_reverse}
use Rattle.std.specs.Cmp.{tied_itself}
use Rattle.std.proofs.lemmas.List.{same_lists, length-map, length-take-le, length-drop, get_or-map, get_or-take, get_or-drop, take-append-drop, append-nil}
use Rattle.std.proofs.lemmas.List.Elements.{filter-append}
use Rattle.ffv1_holding.specs.SliceOrder.{Entry, Origin, entry_cmp, entries_total, origins_total}
use Rattle.ffv1_holding.specs.Sets as set
use Rattle.ffv1_holding.specs.TileSets.{digests_in}
use Rattle.ffv1_holding.specs.Inner.PoolEntries.{entry_in}
use Rattle.ffv1_holding.specs.Inner.Rows.{rows_in, IsRows, IsRowPart}
use Rattle.ffv1_holding.specs.declared.pool_entry.PoolEntry.{PoolEntry}
use Rattle.ffv1_holding.proofs.RisingSets.{items-from_list}
use Rattle.ffv1_holding.proofs.RowLists.{length-rows, get_or-rows}

module _ {X : Type 0} (p : X → Bool) where
  filter_none : (xs : List X) → ((i : ℕ) (d : X) → i < length xs → p (get_or xs i d) ≡ false) → filter p xs ≡ []
  filter_none [] none = refl
  filter_none (x ∷ xs) none =
      ap (λ b. cond b (x ∷ filter p xs) (filter p xs)) (none 0 x (omega arith)) ∙ filter_none xs (λ i d lt. none (suc i) d (omega arith))

  filter_all : (xs : List X) → ((i : ℕ) (d : X) → i < length xs → p (get_or xs i d) ≡ true) → filter p xs ≡ xs
  filter_all [] all = refl
  filter_all (x ∷ xs) all =
      ap (λ b. cond b (x ∷ filter p xs) (filter p xs)) (all 0 x (omega arith)) ∙ ap (λ r. x ∷ r) (filter_all xs (λ i d lt. all (suc i) d (omega arith)))

  -- just the items from place a up to b pass
  filter_part : (xs : List X) (a b : ℕ) → a ≤ b → b ≤ length xs → ((i : ℕ) (d : X) → i < a → p (get_or xs i d) ≡ false)
      → ((i : ℕ) (d : X) → a ≤ i → i < b → p (get_or xs i d) ≡ true) → ((i : ℕ) (d : X) → b ≤ i → i < length xs → p (get_or xs i d) ≡ false)
      → filter p xs ≡ take (b - a) (drop a xs)
  filter_part xs a b le in_range before here after =
      let rest = drop a xs in
      let size = length-drop a xs in
      let long = length-take-le (b - a) rest (omega arith) in
      let front = filter_none (take a xs) (λ i d lt. let front_long = length-take-le a xs (omega arith) in
      rw (get_or-take a xs i d (omega arith)) (before i d (omega arith))) in
      let middle = filter_all (take (b - a) rest) (λ i d lt.
      rw (get_or-take (b - a) rest i d (omega arith), get_or-drop a xs i d) (here (a + i) d (omega arith) (omega arith))) in
      let back = filter_none (drop (b - a) rest) (λ i d lt. let back_long = length-drop (b - a) rest in
      rw (get_or-drop (b - a) rest i d, get_or-drop a xs (b - a + i) d) (after (a + (b - a + i)) d (omega arith) (omega arith))) in
      ap (filter p) (sym (take-append-drop a xs)) ∙ filter-append p (take a xs) rest ∙ ap (λ r. r ++ filter p rest) front
      ∙ ap (filter p) (sym (take-append-drop (b - a) rest)) ∙ filter-append p (take (b - a) rest) (drop (b - a) rest)
      ∙ (λ i. middle i ++ back i) ∙ append-nil (take (b - a) rest)

module _ (bytes : List ℕ) (os : List PoolEntry) (ds : List (List ℕ)) (rows : IsRows bytes os ds) (q : Entry) (a b : ℕ) (is : IsRowPart bytes os q a b) where
  abbrev all : List Origin
  all = rows_in bytes os ds

  some_entry : PoolEntry
  some_entry = record { tile = 0; start = 0; length = 0 }

  row_at : (i : ℕ) (d : Origin) → i < length os → get_or all i d ≡ (entry_in bytes (get_or os i some_entry), get_or ds i [])
  row_at i d lt = get_or-rows bytes os ds rows.long i d some_entry [] lt

  of_slice : filter (λ o. eq_by_cmp entry_cmp q o.0) all ≡ take (b - a) (drop a all)
  of_slice =
      let size = length-rows bytes os ds rows.long in
      filter_part (λ o. eq_by_cmp entry_cmp q o.0) all a b is.starts (omega (arith, is.ends))
      (λ i d lt. rw (row_at i d (omega (arith, is.starts, is.ends)))
      (ap is_eq (entries_total.antisymm q (entry_in bytes (get_or os i some_entry)) ∙ ap ordering_reverse (is.before i some_entry lt))))
      (λ i d ge lt. rw (row_at i d (omega (arith, is.ends)))
      (ap (eq_by_cmp entry_cmp q) (is.here i some_entry ge lt) ∙ ap is_eq (tied_itself entries_total q)))
      (λ i d ge lt. rw (row_at i d (omega arith))
      (ap is_eq (entries_total.antisymm q (entry_in bytes (get_or os i some_entry)) ∙ ap ordering_reverse (is.after i some_entry ge (omega arith)))))

  part_digests : map (λ (o : Origin). o.1) (take (b - a) (drop a all)) ≡ take (b - a) (drop a ds)
  part_digests =
      let size = length-rows bytes os ds rows.long in
      let rest = length-drop a all in
      let left = length-drop a ds in
      let long = length-take-le (b - a) (drop a all) (omega (arith, is.ends)) in
      let also = length-take-le (b - a) (drop a ds) (omega (arith, is.ends, rows.long)) in
      let mapped = length-map (take (b - a) (drop a all)) (λ (o : Origin). o.1) in
      same_lists (map (λ (o : Origin). o.1) (take (b - a) (drop a all))) (take (b - a) (drop a ds)) (omega arith)
      (λ i d lt.
      let o : Origin = (q, d) in
      get_or-map (λ (o : Origin). o.1) (take (b - a) (drop a all)) i o d (omega arith)
      ∙ ap (λ (o : Origin). o.1) (get_or-take (b - a) (drop a all) i o (omega arith) ∙ get_or-drop a all i o
      ∙ get_or-rows bytes os ds rows.long (a + i) o some_entry d (omega (arith, is.ends)))
      ∙ sym (get_or-take (b - a) (drop a ds) i d (omega arith) ∙ get_or-drop a ds i d))

  pub digests_in-part : digests_in (set.from_list all) q ≡ take (b - a) (drop a ds)
  unfolding digests_in
  digests_in-part =
      ap (λ xs. map (λ (o : Origin). o.1) (filter (λ o. eq_by_cmp entry_cmp q o.0) xs)) (items-from_list origins_total all rows.rising)
      ∙ ap (map (λ (o : Origin). o.1)) of_slice ∙ part_digests
