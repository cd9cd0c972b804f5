-- The rows of one slice are a part of all rows.
use Rattle.std.proofs.Common.{◌≡◌, ℕ, ◌+◌, ◌-◌, ◌<◌, ◌≤◌, true, false, List, length, take, drop, get_or, sym, refl, ap, subst, ◌∙◌, inl, inr, arith, Result, Ok, Err, IfOk, IfErr}
use Rattle.std.specs.List.Sorted.{IsPartitionedBy, IsPartitionPoint, IsSearchInRange, IsBinarySearchResult}
use Rattle.std.specs.Ordering.{ordering_then, is_lt, is_le, is_gt}
use Rattle.std.specs.Cmp.{tied_itself}
use Rattle.std.specs.declared.cmp.Ordering.{Ordering}
use Rattle.std.specs.declared.cmp.Ordering.TheVariants.{Less, Equal, Greater}
use Rattle.std.proofs.lemmas.Bool.{cases_order, cases_lt}
use Rattle.std.proofs.lemmas.List.{get_or-take, get_or-drop, get_or_default, length-take-le, length-drop}
use Rattle.ffv1_holding.specs.SliceOrder.{Entry, Origin, entry_cmp, bytes_cmp, origin_cmp, bytes_total, bytes_antisymmetric, entries_total, entries_antisymmetric}
use Rattle.ffv1_holding.specs.Rising.{IsRising}
use Rattle.ffv1_holding.specs.Inner.Rising.{IsPlaceOf, IsInsertionPlace}
use Rattle.ffv1_holding.specs.Inner.PoolEntries.{entry_in}
use Rattle.ffv1_holding.specs.Inner.Rows.{rows_in, IsRows, IsRowPart}
use Rattle.ffv1_holding.specs.declared.pool_entry.PoolEntry.{PoolEntry}
use Rattle.ffv1_holding.proofs.Searches.{searched_items}
use Rattle.ffv1_holding.proofs.RowLists.{length-rows, get_or-rows, owners_rise, digests_rise}

abbrev some_entry : PoolEntry
some_entry = record { tile = 0; start = 0; length = 0 }

lt_less : (o : Ordering) → is_lt o ≡ true → o ≡ Less
lt_less Less e = refl
lt_less Equal e = absurd (cc)
lt_less Greater e = absurd (cc)

le_more : (o : Ordering) → is_le o ≡ false → o ≡ Greater
le_more Less e = absurd (cc)
le_more Equal e = absurd (cc)
le_more Greater e = refl

between : (o : Ordering) → is_lt o ≡ false → is_le o ≡ true → o ≡ Equal
between Less e f = absurd (cc)
between Equal e f = refl
between Greater e f = absurd (cc)

lt_le : (o : Ordering) → is_lt o ≡ true → is_le o ≡ false → ⊥
lt_le Less e f = cc
lt_le Equal e f = cc
lt_le Greater e f = cc

gt_greater : (o : Ordering) → is_gt o ≡ true → o ≡ Greater
gt_greater Less e = absurd (cc)
gt_greater Equal e = absurd (cc)
gt_greater Greater e = refl

greater_less : (o : Ordering) → o ≡ Greater → o ≡ Less → ⊥
greater_less o high low = cc

module _ (bytes : List ℕ) (os : List PoolEntry) (ds : List (List ℕ)) (rows : IsRows bytes os ds) (q : Entry) where
  abbrev to : PoolEntry → Ordering
  to e = entry_cmp (entry_in bytes e) q

  -- what is below an owner that is not above the slice is below the slice
  below_low : (x y : Entry) → entry_cmp x y ≡ Less → is_le (entry_cmp y q) ≡ true → entry_cmp x q ≡ Less
  below_low x y less low = elim (entry_cmp y q) as (λ o. entry_cmp y q ≡ o → is_le o ≡ true → entry_cmp x q ≡ Less) [
    | Less ↦ λ is _. entries_total.trans x y q less is
    | Equal ↦ λ is _. ap (entry_cmp x) (sym (entries_antisymmetric y q is)) ∙ less
    | Greater ↦ λ is low. absurd (cc)
  ] refl low

  lt_low : (o : Ordering) → is_lt o ≡ true → is_le o ≡ true
  lt_low Less e = refl
  lt_low Equal e = refl
  lt_low Greater e = e

  lt_parted : IsPartitionedBy (λ e. is_lt (to e)) os
  lt_parted i j d le lt holds = elim (cases_order i j) [
    | inl same ↦ rw same holds
    | inr (inl before) ↦ elim (owners_rise bytes os ds rows i j d before lt) [
      | inl less ↦ ap is_lt (below_low _ (entry_in bytes (get_or os j d)) less (lt_low (to (get_or os j d)) holds))
      | inr same ↦ ap (λ x. is_lt (entry_cmp x q)) same ∙ holds
    ]
    | inr (inr after) ↦ absurd (omega arith)
  ]

  le_parted : IsPartitionedBy (λ e. is_le (to e)) os
  le_parted i j d le lt holds = elim (cases_order i j) [
    | inl same ↦ rw same holds
    | inr (inl before) ↦ elim (owners_rise bytes os ds rows i j d before lt) [
      | inl less ↦ ap is_le (below_low _ (entry_in bytes (get_or os j d)) less holds)
      | inr same ↦ ap (λ x. is_le (entry_cmp x q)) same ∙ holds
    ]
    | inr (inr after) ↦ absurd (omega arith)
  ]

  row_parted : (a b : ℕ) → a ≤ length os → b ≤ length os
      → IsPartitionPoint (λ e. is_lt (to e) ≡ true) (λ e. is_lt (to e) ≡ false) os a
      → IsPartitionPoint (λ e. is_le (to e) ≡ true) (λ e. is_le (to e) ≡ false) os b → IsRowPart bytes os q a b
  row_parted a b in_a in_b low high =
      let parted : a ≤ b = elim (cases_lt b a) [
        | inl over ↦ absurd (lt_le _ (low.0 b some_entry (omega arith) over) (high.1 b some_entry (omega arith) (omega arith)))
        | inr is ↦ is
      ] in
      record {
        starts = parted;
        ends = in_b;
        before = λ i d lt. lt_less _ (low.0 i d (omega arith) lt);
        here = λ i d ge lt. entries_antisymmetric _ _ (between _ (low.1 i d ge (omega arith)) (high.0 i d (omega arith) lt));
        after = λ i d ge lt. le_more _ (high.1 i d ge lt);
      }

  -- what searches for both ends find is the part, since the owners are in order
  pub part_found : (a b : ℕ) → a ≤ length os → b ≤ length os
      → (IsPartitionedBy (λ e. is_lt (to e)) os → IsPartitionPoint (λ e. is_lt (to e) ≡ true) (λ e. is_lt (to e) ≡ false) os a)
      → (IsPartitionedBy (λ e. is_le (to e)) os → IsPartitionPoint (λ e. is_le (to e) ≡ true) (λ e. is_le (to e) ≡ false) os b) → IsRowPart bytes os q a b
  part_found a b in_a in_b low high = row_parted a b in_a in_b (low lt_parted) (high le_parted)

  -- what is above an owner that is above the slice is above the slice
  above_high : (x y : Entry) → entry_cmp x y ≡ Less → entry_cmp x q ≡ Greater → entry_cmp y q ≡ Greater
  above_high x y less high = elim (entry_cmp y q) as (λ o. entry_cmp y q ≡ o → o ≡ Greater) [
    | Less ↦ λ is. absurd (greater_less _ high (below_low x y less (ap is_le is)))
    | Equal ↦ λ is. absurd (greater_less _ high (below_low x y less (ap is_le is)))
    | Greater ↦ λ is. refl
  ] refl

  -- what a comparison with an owner says
  pub owner_less : (i : ℕ) (e : PoolEntry) (o : Ordering) → i < length os → o ≡ to (get_or os i e) → is_lt o ≡ true → (d : PoolEntry)
      → to (get_or os i d) ≡ Less
  owner_less i e o lt is less d = ap to (get_or_default os i d e lt) ∙ sym is ∙ lt_less o less

  pub owner_greater : (i : ℕ) (e : PoolEntry) (o : Ordering) → i < length os → o ≡ to (get_or os i e) → is_gt o ≡ true → (d : PoolEntry)
      → to (get_or os i d) ≡ Greater
  owner_greater i e o lt is greater d = ap to (get_or_default os i d e lt) ∙ sym is ∙ gt_greater o greater

  -- the part of a slice that has no rows
  pub gap_parted : (a : ℕ) → a ≤ length os → (0 < a → (d : PoolEntry) → to (get_or os (a - 1) d) ≡ Less)
      → (a < length os → (d : PoolEntry) → to (get_or os a d) ≡ Greater) → IsRowPart bytes os q a a
  gap_parted a within low high = record {
    starts = omega arith;
    ends = within;
    before = λ i d lt. elim (cases_order i (a - 1)) [
      | inl same ↦ rw same (low (omega arith) d)
      | inr (inl under) ↦ elim (owners_rise bytes os ds rows i (a - 1) d under (omega arith)) [
        | inl less ↦ entries_total.trans _ _ q less (low (omega arith) d)
        | inr same ↦ ap (λ x. entry_cmp x q) same ∙ low (omega arith) d
      ]
      | inr (inr over) ↦ absurd (omega arith)
    ];
    here = λ i d ge lt. absurd (omega arith);
    after = λ i d ge lt. elim (cases_order a i) [
      | inl same ↦ rw (← same) (high (omega arith) d)
      | inr (inl over) ↦ elim (owners_rise bytes os ds rows a i d over lt) [
        | inl less ↦ above_high _ _ less (high (omega arith) d)
        | inr same ↦ ap (λ x. entry_cmp x q) (sym same) ∙ high (omega arith) d
      ]
      | inr (inr under) ↦ absurd (omega arith)
    ];
  }

  module _ (a b : ℕ) (is : IsRowPart bytes os q a b) where
    abbrev part : List (List ℕ)
    part = take (b - a) (drop a ds)

    part_long : length (take (b - a) (drop a ds)) ≡ b - a
    part_long = length-take-le (b - a) (drop a ds) (omega (arith, length-drop a ds, is.ends, rows.long))

    part_at : (i : ℕ) (x : List ℕ) → i < b - a → get_or (take (b - a) (drop a ds)) i x ≡ get_or ds (a + i) x
    part_at i x lt = get_or-take (b - a) (drop a ds) i x lt ∙ get_or-drop a ds i x

    pub part_rising : IsRising bytes_cmp (take (b - a) (drop a ds))
    part_rising i j x lt in_range =
        let long = part_long in
        let here_i = is.here (a + i) some_entry (omega arith) (omega (arith, is.starts)) in
        let here_j = is.here (a + j) some_entry (omega arith) (omega (arith, is.starts)) in
        rw (part_at i x (omega arith), part_at j x (omega arith))
        (digests_rise bytes os ds rows (a + i) (a + j) some_entry x (omega arith) (omega (arith, is.ends))
        (ap (entry_cmp (entry_in bytes (get_or os (a + i) some_entry))) (here_j ∙ sym here_i)
        ∙ tied_itself entries_total (entry_in bytes (get_or os (a + i) some_entry))))

    row_here : (i : ℕ) (d : Origin) (x : List ℕ) → i < b - a → get_or (rows_in bytes os ds) (a + i) d ≡ (q, get_or part i x)
    row_here i d x lt =
        let owner = is.here (a + i) some_entry (omega arith) (omega (arith, is.starts)) in
        let digest = sym (part_at i x lt) in
        get_or-rows bytes os ds rows.long (a + i) d some_entry x (omega (arith, is.ends)) ∙ (λ k. (owner k, digest k))

    -- a digest of the part is one of the slice's rows
    place_in_part : (x : List ℕ) (i : ℕ) → IsPlaceOf (take (b - a) (drop a ds)) x i → IsPlaceOf (rows_in bytes os ds) (q, x) (a + i)
    place_in_part x i at =
        let long = part_long in
        let size = length-rows bytes os ds rows.long in
        record {
          in_range = omega (arith, at.in_range, is.ends, is.starts);
          is_there = λ d. row_here i d x (omega (arith, at.in_range)) ∙ ap (λ y. let o : Origin = (q, y) in o) (at.is_there x);
        }

    side : (e : Entry) (x y : List ℕ) (o : Ordering) → entry_cmp e q ≡ o → ordering_then o (bytes_cmp x y) ≡ o → origin_cmp (e, x) (q, y) ≡ o
    side e x y o is_o then = ap (λ r. ordering_then r (bytes_cmp x y)) is_o ∙ then

    tie : (x y : List ℕ) → origin_cmp (q, x) (q, y) ≡ bytes_cmp x y
    tie x y = ap (λ r. ordering_then r (bytes_cmp x y)) (tied_itself entries_total q)

    -- and a gap of the part is one of the rows
    gap_in_part : (x : List ℕ) (i : ℕ) → IsInsertionPlace bytes_cmp (take (b - a) (drop a ds)) x i → IsInsertionPlace origin_cmp (rows_in bytes os ds) (q, x) (a + i)
    gap_in_part x i gap =
        let long = part_long in
        let size = length-rows bytes os ds rows.long in
        let within : i ≤ b - a = omega (arith, gap.in_range) in
        record {
          in_range = omega (arith, is.ends, is.starts);
          below = λ j d lt. elim (cases_lt j a) [
            | inl before ↦ rw (get_or-rows bytes os ds rows.long j d some_entry x (omega (arith, is.ends, is.starts)))
                (side (entry_in bytes (get_or os j some_entry)) (get_or ds j x) x Less (is.before j some_entry before) refl)
            | inr after ↦ subst (λ n. origin_cmp (get_or (rows_in bytes os ds) n d) (q, x) ≡ Less) {x = a + (j - a)} {y = j} (omega arith)
                (rw (row_here (j - a) d x (omega arith)) (tie (get_or part (j - a) x) x ∙ gap.below (j - a) x (omega arith)))
          ];
          above = λ j d ge lt. elim (cases_lt j b) [
            | inl before ↦ subst (λ n. origin_cmp (get_or (rows_in bytes os ds) n d) (q, x) ≡ Greater) {x = a + (j - a)} {y = j} (omega arith)
                (rw (row_here (j - a) d x (omega arith)) (tie (get_or part (j - a) x) x ∙ gap.above (j - a) x (omega arith) (omega arith)))
            | inr after ↦ rw (get_or-rows bytes os ds rows.long j d some_entry x (omega arith))
                (side (entry_in bytes (get_or os j some_entry)) (get_or ds j x) x Greater (is.after j some_entry after (omega arith)) refl)
          ];
        }

    -- a search of the part by digest finds the row, or the gap for it
    pub row_searched : (x : List ℕ) (r : Result ℕ ℕ) → IsSearchInRange r (length (take (b - a) (drop a ds)))
        → IsBinarySearchResult (λ y. bytes_cmp y x) (take (b - a) (drop a ds)) r → record {
          found : IfOk r (λ i. IsPlaceOf (rows_in bytes os ds) (q, x) (a + i));
          absent : IfErr r (λ i. IsInsertionPlace origin_cmp (rows_in bytes os ds) (q, x) (a + i));
        }
    row_searched x (Ok i) in_range found =
        let both = searched_items bytes_total bytes_antisymmetric part x part_rising (Ok i) in_range found in
        record { found = place_in_part x i both.found; absent = tt }
    row_searched x (Err i) in_range found =
        let both = searched_items bytes_total bytes_antisymmetric part x part_rising (Err i) in_range found in
        record { found = tt; absent = gap_in_part x i both.absent }
