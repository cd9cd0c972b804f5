-- Marks of the tiles of slices, row by row.
use Rattle.std.proofs.Common.{◌≡◌, ℕ, ◌+◌, ◌-◌, ◌*◌, ◌<◌, ◌≤◌, ◌⊎◌, Bool, true, false, List, refl, sym, ap, subst, ◌∙◌, inl, inr, replicate, arith}
use Rattle.std.proofs.lemmas.List.{length-replicate, get_or-replicate, get_or_past}
use Rattle.std.proofs.lemmas.Bool.{cases_lt}
use Rattle.ffv1_range.specs.declared.head.SliceHeader.{SliceHeader}
use Rattle.ffv1_layout.specs.Layout.{HasTile, header_at, AreApart, IsInSlice, SharesTile}
use Rattle.ffv1_layout.specs.Inner.Marking.{tile_mark, AreFree, AreMarked, AreMarksOf, IsFrom, IsInRows}

-- ---- one row after the other

module _ (across : ℕ) (header : SliceHeader) where
  pub no_row : (tile : ℕ) → IsInRows across header header.y tile → ⊥
  no_row tile is = let below = is.5 in let above = is.6 in omega arith

  pub rows_more : (n tile : ℕ) → IsInRows across header n tile → IsInRows across header (n + 1) tile
  rows_more n tile is = (is.0, is.1, is.2, is.3, is.4, is.5, omega (arith, is.6))

  pub row_in_rows : (n tile : ℕ) → header.y ≤ n → IsFrom (n * across + header.x) header.w tile → IsInRows across header (n + 1) tile
  row_in_rows n tile below is =
      let left = is.0 in let right = is.1 in
      (tile - n * across, n, omega arith, omega arith, omega arith, below, omega arith)

  pub last_row : (n tile : ℕ) → IsInRows across header (n + 1) tile → IsInRows across header n tile ⊎ IsFrom (n * across + header.x) header.w tile
  last_row n tile is = let left = is.3 in let right = is.4 in let above = is.6 in elim (cases_lt is.1 n) [
    | inl less ↦ inl (is.0, is.1, is.2, is.3, is.4, is.5, less)
    | inr more ↦
        let same : is.1 ≡ n = omega arith in
        let place : tile ≡ n * across + is.0 = is.2 ∙ ap (λ r. r * across + is.0) same in
        inr (omega arith, omega arith)
  ]

  pub tile_in_rows : (tile : ℕ) → HasTile across header tile → IsInRows across header (header.y + header.h) tile
  tile_in_rows tile is = (is.column, is.row, is.place, is.right_of, is.left_of, is.below, is.above)

  pub rows_have_tile : (n tile : ℕ) → n ≤ header.y + header.h → IsInRows across header n tile → HasTile across header tile
  rows_have_tile n tile le is = let above = is.6 in
      record { column = is.0; row = is.1; place = is.2; right_of = is.3; left_of = is.4; below = is.5; above = omega arith }

  pub no_row_marked : (old : List Bool) → AreMarked (IsInRows across header header.y) old old
  no_row_marked old = record { same_length = refl; these = λ tile is. absurd (no_row tile is); kept = λ tile is. is; only = λ tile is. inl is }

  pub one_row_marked : (n : ℕ) (old mid new : List Bool) → header.y ≤ n → AreMarked (IsInRows across header n) old mid
      → AreMarked (IsFrom (n * across + header.x) header.w) mid new → AreMarked (IsInRows across header (n + 1)) old new
  one_row_marked n old mid new below before here = record {
    same_length = here.same_length ∙ before.same_length;
    these = λ tile is. elim (last_row n tile is) [
      | inl earlier ↦ here.kept tile (before.these tile earlier)
      | inr last ↦ here.these tile last
    ];
    kept = λ tile is. here.kept tile (before.kept tile is);
    only = λ tile is. elim (here.only tile is) [
      | inl marked ↦ earlier_only tile (before.only tile marked)
      | inr last ↦ inr (row_in_rows n tile below last)
    ];
  }
    where
      earlier_only : (tile : ℕ) → (tile_mark old tile ≡ true) ⊎ IsInRows across header n tile
          → (tile_mark old tile ≡ true) ⊎ IsInRows across header (n + 1) tile
      earlier_only tile (inl is) = inl is
      earlier_only tile (inr is) = inr (rows_more n tile is)

  pub all_marked : (n : ℕ) (old new : List Bool) → n ≡ header.y + header.h → AreMarked (IsInRows across header n) old new
      → AreMarked (HasTile across header) old new
  all_marked n old new end is = record {
    same_length = is.same_length;
    these = λ tile has. is.these tile (subst (λ m. IsInRows across header m tile) (sym end) (tile_in_rows tile has));
    kept = is.kept;
    only = λ tile marked. elim (is.only tile marked) [
      | inl old_one ↦ inl old_one
      | inr in_rows ↦ inr (rows_have_tile n tile (omega arith) in_rows)
    ];
  }

-- ---- one slice after the other

module _ (across : ℕ) (headers : List SliceHeader) where
  pub no_marks : (tiles : ℕ) → AreMarksOf across headers 0 (replicate tiles false)
  no_marks tiles = record {
    these = λ tile is. absurd (let lt = is.1 in omega arith);
    only = λ tile marked. let not_marked = unmarked tile in cc;
  }
    where
      unmarked : (tile : ℕ) → tile_mark (replicate tiles false) tile ≡ false
      unmarked tile = elim (cases_lt tile tiles) [
        | inl less ↦ get_or-replicate tiles tile false false less
        | inr more ↦ get_or_past (replicate tiles false) tile false (omega (arith, length-replicate tiles false))
      ]

  module _ (n : ℕ) (old : List Bool) (marks : AreMarksOf across headers n old) where
    pub one_slice_marked : (new : List Bool) → AreMarked (HasTile across (header_at headers n)) old new → AreMarksOf across headers (n + 1) new
    one_slice_marked new is = record {
      these = λ tile here. these_more tile here;
      only = λ tile marked. elim (is.only tile marked) [
        | inl earlier ↦ let at = marks.only tile earlier in (at.0, (let lt = at.1 in omega arith), at.2)
        | inr has ↦ (n, omega arith, has)
      ];
    }
      where
        these_more : (tile : ℕ) → IsInSlice across headers (n + 1) tile → tile_mark new tile ≡ true
        these_more tile here = elim (cases_lt here.0 n) [
          | inl less ↦ is.kept tile (marks.these tile (here.0, less, here.2))
          | inr more ↦ is.these tile (subst (λ k. HasTile across (header_at headers k) tile) {x = here.0} {y = n} (let lt = here.1 in omega arith) here.2)
        ]

    pub one_more_apart : AreApart across headers n → AreFree old (HasTile across (header_at headers n)) true → AreApart across headers (n + 1)
    one_more_apart apart free k j lt less shared = elim (cases_lt k n) [
      | inl earlier ↦ apart k j earlier less shared
      | inr last ↦
          let same : k ≡ n = omega arith in
          let has = subst (λ i. HasTile across (header_at headers i) shared.0) same shared.2 in
          let marked = marks.these shared.0 (j, omega arith, shared.1) in
          let not_marked = free shared.0 has in
          cc
    ]

    pub overlaps : ((tile : ℕ) × HasTile across (header_at headers n) tile × (tile_mark old tile ≡ true))
        → (other : ℕ) × (other < n) × SharesTile across (header_at headers other) (header_at headers n)
    overlaps taken = let at = marks.only taken.0 taken.2 in (at.0, at.1, (taken.0, at.2, taken.1))

    pub not_in_slice : (tile : ℕ) → tile_mark old tile ≡ false → IsInSlice across headers n tile → ⊥
    not_in_slice tile unmarked is = let marked = marks.these tile is in cc
