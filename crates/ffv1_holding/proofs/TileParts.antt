-- The entries of one tile are a part of those of all.
use Rattle.std.proofs.Common.{◌≡◌, ◌≢◌, ℕ, suc, leb, ltb, ◌+◌, ◌-◌, ◌<◌, ◌≤◌, true, false, ◌||◌, List, [], ◌∷◌, length, map, take, drop, get_or, sym, refl, ap, subst, ◌∙◌, inl, inr, arith}
use mathlib.Core.Bool.{or-false}
use Rattle.std.specs.List.{list_any}
use Rattle.std.specs.List.Sorted.{IsNonDecreasingBy, IsPartitionPoint}
use Rattle.std.specs.Ordering.{nat_cmp, ordering_then, eq_by_cmp, MatchOrdering}
use Rattle.std.specs.Cmp.{ranks, tied_itself, nat_cmp_total}
use Rattle.std.specs.declared.cmp.Ordering.{Ordering}
use Rattle.std.specs.declared.cmp.Ordering.TheVariants.{Less, Equal, Greater}
use Rattle.std.proofs.lemmas.Bool.{cases_order, cases_lt, ltb-true, ltb-false, leb-true, leb-false}
use Rattle.std.proofs.lemmas.List.{map-append, get_or-map, get_or-take, get_or-drop, length-map, length-take-le, length-drop, take-append-drop}
use Rattle.std.proofs.lemmas.List.Folds.{list_any-append}
use Rattle.ffv1_holding.specs.SliceOrder.{bytes_cmp, entry_cmp, bytes_total, bytes_antisymmetric, entries_total}
use Rattle.ffv1_holding.specs.Sets as set
use Rattle.ffv1_holding.specs.Rising.{IsRising}
use Rattle.ffv1_holding.specs.TileSets.{tile_slices}
use Rattle.ffv1_holding.specs.Inner.PoolEntries.{slice_in, entry_in, IsPool, IsShelf, IsTilePart}
use Rattle.ffv1_holding.specs.declared.pool_entry.PoolEntry.{PoolEntry}
use Rattle.ffv1_holding.proofs.RisingSets.{size_kept, items_kept}
use Rattle.ffv1_holding.proofs.Tiles.{same_tile, other_tile, contains-tile_slices}

abbrev some_entry : PoolEntry
some_entry = record { tile = 0; start = 0; length = 0 }

module _ (bytes : List ℕ) (t : ℕ) (q : List ℕ) where
  -- entries of other tiles are no slice of this one
  any_apart : (es : List PoolEntry) → ((i : ℕ) (d : PoolEntry) → i < length es → (get_or es i d).tile ≢ t)
      → list_any (eq_by_cmp entry_cmp (t, q)) (map (entry_in bytes) es) ≡ false
  any_apart [] apart = refl
  any_apart (e ∷ es) apart =
      (λ i. other_tile t e.tile q (slice_in bytes e) (λ same. apart 0 e (omega arith) (sym same)) i || any_apart es (λ j d lt. apart (suc j) d (omega arith)) i)

  any_alike : (es : List PoolEntry) → ((i : ℕ) (d : PoolEntry) → i < length es → (get_or es i d).tile ≡ t)
      → list_any (eq_by_cmp entry_cmp (t, q)) (map (entry_in bytes) es) ≡ list_any (eq_by_cmp bytes_cmp q) (map (slice_in bytes) es)
  any_alike [] alike = refl
  any_alike (e ∷ es) alike =
      (λ i. (ap (λ n. eq_by_cmp entry_cmp (t, q) (n, slice_in bytes e)) (alike 0 e (omega arith)) ∙ same_tile t q (slice_in bytes e)) i
      || any_alike es (λ j d lt. alike (suc j) d (omega arith)) i)

first_le : (m n : ℕ) (r : Ordering) → ordering_then (nat_cmp m n) r ≡ Less → m ≤ n
first_le m n r less = elim (nat_cmp m n) as (λ o. MatchOrdering o (m < n) (m ≡ n) (n < m) → ordering_then o r ≡ Less → m ≤ n) [
  | Less ↦ λ is _. omega arith
  | Equal ↦ λ is _. omega arith
  | Greater ↦ λ is less. absurd (cc)
] (ranks m n) less

module _ (bytes : List ℕ) (es : List PoolEntry) (rising : IsRising entry_cmp (map (entry_in bytes) es)) where
  -- the tiles do not fall
  pub tiles_rise : IsNonDecreasingBy (λ e. e.tile) es
  tiles_rise i j d le lt = elim (cases_order i j) [
    | inl same ↦ rw same (omega arith)
    | inr (inl before) ↦
        let long = length-map es (entry_in bytes) in
        let is = rising i j (entry_in bytes d) before (omega arith) in
        first_le (get_or es i d).tile (get_or es j d).tile (bytes_cmp (slice_in bytes (get_or es i d)) (slice_in bytes (get_or es j d)))
        ((λ k. entry_cmp (sym (get_or-map (entry_in bytes) es i d (entry_in bytes d) (omega arith)) k)
        (sym (get_or-map (entry_in bytes) es j d (entry_in bytes d) lt) k)) ∙ is)
    | inr (inr after) ↦ absurd (omega arith)
  ]

-- the entries before the first that is not of a lower tile, and those before the first that is of a higher one
pub tile_parted : (es : List PoolEntry) (t a b : ℕ) → a ≤ length es → b ≤ length es
    → IsPartitionPoint (λ (e : PoolEntry). ltb e.tile t ≡ true) (λ (e : PoolEntry). ltb e.tile t ≡ false) es a
    → IsPartitionPoint (λ (e : PoolEntry). leb e.tile t ≡ true) (λ (e : PoolEntry). leb e.tile t ≡ false) es b → IsTilePart es t a b
tile_parted es t a b in_a in_b low high =
    let parted : a ≤ b = elim (cases_lt b a) [
      | inl over ↦
          let lower = ltb-true _ _ (low.0 b some_entry (omega arith) over) in
          let higher = leb-false _ _ (high.1 b some_entry (omega arith) (omega arith)) in
          absurd (omega arith)
      | inr is ↦ is
    ] in
    record {
      starts = parted;
      ends = in_b;
      before = λ i d lt. ltb-true _ _ (low.0 i d (omega arith) lt);
      here = λ i d ge lt.
          let least = ltb-false _ _ (low.1 i d ge (omega arith)) in
          let most = leb-true _ _ (high.0 i d (omega arith) lt) in
          omega arith;
      after = λ i d ge lt. leb-false _ _ (high.1 i d ge lt);
    }

module _ (bytes : List ℕ) (es : List PoolEntry) (pool : IsPool bytes es) (t a b : ℕ) (is : IsTilePart es t a b) where
  part_long : length (take (b - a) (drop a es)) ≡ b - a
  part_long = length-take-le (b - a) (drop a es) (omega (arith, length-drop a es, is.ends))

  part_at : (i : ℕ) (d : PoolEntry) → i < b - a → get_or (take (b - a) (drop a es)) i d ≡ get_or es (a + i) d
  part_at i d lt = get_or-take (b - a) (drop a es) i d lt ∙ get_or-drop a es i d

  part_here : (i : ℕ) (d : PoolEntry) → i < length (take (b - a) (drop a es)) → (get_or (take (b - a) (drop a es)) i d).tile ≡ t
  part_here i d lt =
      let long = part_long in
      rw (part_at i d (omega arith)) (is.here (a + i) d (omega arith) (omega arith))

  any_part : (q : List ℕ) → list_any (eq_by_cmp entry_cmp (t, q)) (map (entry_in bytes) es) ≡ list_any (eq_by_cmp bytes_cmp q)
      (map (slice_in bytes) (take (b - a) (drop a es)))
  any_part q =
      let p = eq_by_cmp entry_cmp (t, q) in
      let f = entry_in bytes in
      let rest = drop a es in
      let front : list_any p (map f (take a es)) ≡ false =
      any_apart bytes t q (take a es) (λ i d lt. let long = length-take-le a es (omega (arith, is.starts, is.ends)) in
      rw (get_or-take a es i d (omega arith)) (λ same. let low = is.before i d (omega arith) in omega arith)) in
      let back : list_any p (map f (drop (b - a) rest)) ≡ false =
      any_apart bytes t q (drop (b - a) rest) (λ i d lt. let long = length-drop (b - a) rest in let longer = length-drop a es in
      rw (get_or-drop (b - a) rest i d, get_or-drop a es (b - a + i) d)
      (λ same. let high = is.after (a + (b - a + i)) d (omega (arith, is.starts)) (omega (arith, is.starts, is.ends)) in omega arith)) in
      ap (λ xs. list_any p (map f xs)) (sym (take-append-drop a es))
      ∙ ap (list_any p) (map-append f (take a es) rest) ∙ list_any-append p (map f (take a es)) (map f rest)
      ∙ ap (λ x. x || list_any p (map f rest)) front
      ∙ ap (λ xs. list_any p (map f xs)) (sym (take-append-drop (b - a) rest))
      ∙ ap (list_any p) (map-append f (take (b - a) rest) (drop (b - a) rest)) ∙ list_any-append p (map f (take (b - a) rest)) (map f (drop (b - a) rest))
      ∙ ap (λ x. list_any p (map f (take (b - a) rest)) || x) back ∙ or-false _
      ∙ any_alike bytes t q (take (b - a) rest) part_here

  -- the part is the tile's set
  pub tile_slices-part : (slices : set.SetOf entry_cmp) → set.from_list (map (entry_in bytes) es) ≡ slices
      → set.from_list (map (slice_in bytes) (take (b - a) (drop a es))) ≡ tile_slices slices t
  tile_slices-part slices same = set.same_set bytes_total bytes_antisymmetric _ _ (λ q.
      set.contains-from_list bytes_total (map (slice_in bytes) (take (b - a) (drop a es))) q ∙ sym (any_part q)
      ∙ sym (set.contains-from_list entries_total (map (entry_in bytes) es) (t, q)) ∙ ap (λ s. set.contains s (t, q)) same
      ∙ sym (contains-tile_slices slices t q))

  alike : (c d : List ℕ) (m n : ℕ) → m ≡ t → n ≡ t → entry_cmp (m, c) (n, d) ≡ bytes_cmp c d
  alike c d m n this also = rw (this, also) (ap (λ r. ordering_then r (bytes_cmp c d)) (tied_itself nat_cmp_total t))

  pub is_shelf : IsShelf bytes (take (b - a) (drop a es))
  is_shelf = record {
    each = λ i d lt. let long = part_long in rw (part_at i d (omega arith)) (pool.each (a + i) d (omega (arith, is.ends)));
    rising = λ i j d before_j lt.
        let long = part_long in
        let mapped = length-map (take (b - a) (drop a es)) (slice_in bytes) in
        let all = length-map es (entry_in bytes) in
        let x = get_or es (a + i) some_entry in
        let y = get_or es (a + j) some_entry in
        let less = pool.rising (a + i) (a + j) (entry_in bytes some_entry) (omega arith) (omega (arith, is.ends)) in
        let at_x = get_or-map (entry_in bytes) es (a + i) some_entry (entry_in bytes some_entry) (omega (arith, is.ends)) in
        let at_y = get_or-map (entry_in bytes) es (a + j) some_entry (entry_in bytes some_entry) (omega (arith, is.ends)) in
        let bytes_less : bytes_cmp (slice_in bytes x) (slice_in bytes y) ≡ Less =
        sym (alike (slice_in bytes x) (slice_in bytes y) x.tile y.tile (is.here (a + i) some_entry (omega arith) (omega arith))
        (is.here (a + j) some_entry (omega arith) (omega arith))) ∙ (λ k. entry_cmp (sym at_x k) (sym at_y k)) ∙ less in
        rw (
          get_or-map (slice_in bytes) (take (b - a) (drop a es)) i some_entry d (omega arith),
          get_or-map (slice_in bytes) (take (b - a) (drop a es)) j some_entry d (omega arith),
          part_at i some_entry (omega arith),
          part_at j some_entry (omega arith),
        ) bytes_less;
  }

  module _ (slices : set.SetOf entry_cmp) (same : set.from_list (map (entry_in bytes) es) ≡ slices) where
    -- a place among the tile's slices is a place in the part
    pub size_part : set.size (tile_slices slices t) ≡ b - a
    size_part =
        size_kept bytes_total (slice_in bytes) (take (b - a) (drop a es)) (tile_slices slices t) is_shelf.rising (tile_slices-part slices same) ∙ part_long

    pub entry_in_part : (i : ℕ) (x : PoolEntry) (d : List ℕ) → i < b - a
        → entry_in bytes (get_or es (a + i) x) ≡ (t, get_or (set.items (tile_slices slices t)) i d)
    entry_in_part i x d lt =
        let long = part_long in
        let part = take (b - a) (drop a es) in
        let there = ap (slice_in bytes) (sym (part_at i x lt)) ∙ sym (get_or-map (slice_in bytes) part i x d (omega arith))
        ∙ ap (λ xs. get_or xs i d)
        (sym (items_kept bytes_total (slice_in bytes) part (tile_slices slices t) is_shelf.rising (tile_slices-part slices same))) in
        λ k. (is.here (a + i) x (omega arith) (omega arith) k, there k)

-- a place among the slices of a tile is one among the entries that were lent
pub place_lent : (bytes : List ℕ) (es lent : List PoolEntry) → IsPool bytes es → lent ≡ es → (t a b : ℕ) → IsTilePart lent t a b
    → (slices : set.SetOf entry_cmp) → set.from_list (map (entry_in bytes) es) ≡ slices → (place : ℕ) → place < set.size (tile_slices slices t)
    → a + place < length lent
place_lent bytes es lent pool same t a b part slices shown place lt =
    omega (arith, lt, part.ends, size_part bytes es pool t a b (subst (λ (xs : List PoolEntry). IsTilePart xs t a b) same part) slices shown)
