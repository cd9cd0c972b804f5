-- The entries of all tiles, tile by tile, are the items of the set in their order.
use Rattle.ffv1_hold.proofs.Common.{◌≡◌, ℕ, zero, suc, ◌+◌, ◌-◌, ◌<◌, nat_lt, Bool, true, false, ◌||◌, ◌&&◌, List, ◌++◌, length, get_or, refl, sym, ap, ◌∙◌, subst, inl, inr, arith, length-append, or-false, list_any, nat_cmp, ordering_then, eq_by_cmp, nat_cmp_is, Less, cases_lt, cases_order, lt-ltb, le-ltb, get_or-map, length-map, list_any-append, get_or-append, get_or-append_right, Entry, bytes_cmp, entry_cmp, entries_total, entries_antisymmetric, IsRising, tile_slices, tile_entries, entries_below, items-from_list, items-rising, rising-append, any-same, any-other, contains-tile_slices, flat_map-range_more}
use Rattle.ffv1_holding.specs.Sets as set

-- one tile more
entries_below-more : (slices : set.SetOf entry_cmp) (t : ℕ) → entries_below slices (t + 1) ≡ entries_below slices t ++ tile_entries slices t
entries_below-more slices t = flat_map-range_more (tile_entries slices) t

module _ (slices : set.SetOf entry_cmp) where
  below_suc : (n : ℕ) → entries_below slices (suc n) ≡ entries_below slices n ++ tile_entries slices n
  below_suc n = ap (entries_below slices) {x = suc n} {y = n + 1} (omega arith) ∙ entries_below-more slices n

  entry_at : (n : ℕ) (i : ℕ) (d : Entry) → i < length (set.items (tile_slices slices n))
      → get_or (tile_entries slices n) i d ≡ (n, get_or (set.items (tile_slices slices n)) i d.1)
  entry_at n i d lt = get_or-map (λ b. let e : Entry = (n, b) in e) (set.items (tile_slices slices n)) i d.1 d lt

  tiles_below : (n i : ℕ) (d : Entry) → i < length (entries_below slices n) → (get_or (entries_below slices n) i d).0 < n
  tiles_below zero i d lt = absurd (omega arith)
  tiles_below (suc n) i d lt =
      let xs = entries_below slices n in
      let ys = tile_entries slices n in
      let long = length-append xs ys ∙ ap (λ k. length xs + k) (length-map (set.items (tile_slices slices n)) (λ b. let e : Entry = (n, b) in e)) in
      let all = ap length (below_suc n) in
      elim (cases_lt i (length xs)) [
        | inl left ↦ rw (below_suc n, get_or-append xs ys d i left) (let before = tiles_below n i d left in omega arith)
        | inr right ↦ rw (below_suc n, get_or-append_right xs ys i d right, entry_at n (i - length xs) d (omega arith)) (omega arith)
      ]

  tile_rises : (n : ℕ) → IsRising entry_cmp (tile_entries slices n)
  tile_rises n i j d lt in_range = grind (arith, length-map, entry_at, items-rising)

  all_rise : (n : ℕ) → IsRising entry_cmp (entries_below slices n)
  all_rise zero = λ i j d lt in_range. absurd (omega arith)
  all_rise (suc n) =
      subst (IsRising entry_cmp) (sym (below_suc n))
      (rising-append entry_cmp (entries_below slices n) (tile_entries slices n) (all_rise n) (tile_rises n)
      (λ i j d lt in_range.
      let x = get_or (entries_below slices n) i d in
      let bs = set.items (tile_slices slices n) in
      let long = length-map bs (λ b. let e : Entry = (n, b) in e) in
      rw (entry_at n j d (omega arith)) (ap (λ o. ordering_then o (bytes_cmp x.1 (get_or bs j d.1))) (nat_cmp_less x.0 n (tiles_below n i d lt)))))
    where
      nat_cmp_less : (a b : ℕ) → a < b → nat_cmp a b ≡ Less
      nat_cmp_less a b lt = sym (nat_cmp_is a b Less lt)

  any_below : (n t : ℕ) (b : List ℕ) → list_any (eq_by_cmp entry_cmp (t, b)) (entries_below slices n) ≡ (nat_lt t n && set.contains slices (t, b))
  any_below zero t b = ap (λ x. x && set.contains slices (t, b)) (sym (le-ltb t 0 (omega arith)))
  any_below (suc n) t b =
      ap (list_any (eq_by_cmp entry_cmp (t, b))) (below_suc n) ∙ list_any-append (eq_by_cmp entry_cmp (t, b)) (entries_below slices n) (tile_entries slices n)
      ∙ elim (cases_order t n) [
        | inl same ↦
            (λ i. (any_below n t b ∙ ap (λ x. x && set.contains slices (t, b)) (le-ltb t n (omega arith))) i ||
            (ap (λ k. list_any (eq_by_cmp entry_cmp (t, b)) (tile_entries slices k)) {x = n} {y = t} (omega arith)
            ∙ any-same t b (set.items (tile_slices slices t)) ∙ sym (set.contains-items (tile_slices slices t) b) ∙ contains-tile_slices slices t b) i)
            ∙ sym (ap (λ x. x && set.contains slices (t, b)) (lt-ltb t (suc n) (omega arith)))
        | inr (inl less) ↦
            (λ i. (any_below n t b ∙ ap (λ x. x && set.contains slices (t, b)) (lt-ltb t n less)) i || any-other t n b (set.items (tile_slices slices n))
            (λ e. omega arith) i)
            ∙ or-false (set.contains slices (t, b)) ∙ sym (ap (λ x. x && set.contains slices (t, b)) (lt-ltb t (suc n) (omega arith)))
        | inr (inr more) ↦
            (λ i. (any_below n t b ∙ ap (λ x. x && set.contains slices (t, b)) (le-ltb t n (omega arith))) i || any-other t n b
            (set.items (tile_slices slices n)) (λ e. omega arith) i)
            ∙ sym (ap (λ x. x && set.contains slices (t, b)) (le-ltb t (suc n) (omega arith)))
      ]

  -- where each entry's tile is below the number, no others are left
  pub entries_below-all : (n : ℕ) → ((e : Entry) → set.contains slices e ≡ true → e.0 < n) → entries_below slices n ≡ set.items slices
  entries_below-all n few =
      sym (items-from_list entries_total (entries_below slices n) (all_rise n))
      ∙ ap set.items (set.same_set entries_total entries_antisymmetric _ _
      (λ q. set.contains-from_list entries_total (entries_below slices n) q ∙ any_below n q.0 q.1 ∙ kept q))
    where
      and_true : (a b : Bool) → (b ≡ true → a ≡ true) → (a && b) ≡ b
      and_true true b h = refl
      and_true false true h = h refl
      and_true false false h = refl

      kept : (q : Entry) → (nat_lt q.0 n && set.contains slices q) ≡ set.contains slices q
      kept q = and_true (nat_lt q.0 n) (set.contains slices q) (λ there. lt-ltb q.0 n (few q there))
