-- Each tile is in one slice, and only in one: said by columns and rows, and by the numbers of tiles.
use Rattle.std.proofs.Common.{◌≡◌, ℕ, ◌+◌, ◌*◌, ◌/◌, ◌%◌, ◌<◌, ◌≤◌, List, length, refl, subst, arith, inl, inr}
use Rattle.std.proofs.lemmas.Bool.{cases_order}
use Rattle.std.proofs.lemmas.Nat.{mul-add-lt, same_from_place, div-add-mod', mod_below, row-Below}
use Rattle.ffv1_range.specs.Setup.{RecordingValue}
use Rattle.ffv1_range.specs.Tiles.{grid_of, tile_count}
use Rattle.ffv1_range.specs.declared.head.SliceHeader.{SliceHeader}
use Rattle.ffv1_layout.specs.Layout.{HasTile, AreApart, IsInSlice, header_at}
use Rattle.ffv1_player.specs.SmallFrames.{HasTileAt, HaveEachTile}

-- the tile of a column and a row, by its number
has_tile : (across column row : ℕ) (header : SliceHeader) → HasTileAt header column row → HasTile across header (row * across + column)
has_tile across column row header h =
    record { column = column; row = row; place = refl; right_of = h.0; left_of = h.1; below = h.2; above = h.3 }

-- .. and back, where no slice leaves the grid
tile_at : (across column row : ℕ) (header : SliceHeader) → column < across → header.x + header.w ≤ across → HasTile across header (row * across + column)
    → HasTileAt header column row
tile_at across column row header less within has =
    let left = has.left_of in
    let inside : has.column < across = omega (arith, left, within) in
    let same = same_from_place row column has.row has.column across less inside has.place in (
      omega (arith, same.1, has.right_of),
      omega (arith, same.1, left),
      omega (arith, same.0, has.below),
      (let above = has.above in omega (arith, same.0, above)),
    )

module _ (r : RecordingValue) (headers : List SliceHeader)
    (within : (place : ℕ) → place < length headers → (header_at headers place).x + (header_at headers place).w ≤ r.setup.across) where
  only_one : AreApart r.setup.across headers (length headers) → (tile other place : ℕ) → other < length headers → place < length headers
      → HasTile r.setup.across (header_at headers other) tile → HasTile r.setup.across (header_at headers place) tile → other ≡ place
  only_one apart tile other place less small there here = elim (cases_order other place) [
    | inl same ↦ same
    | inr unequal ↦ elim unequal [
      | inl before ↦ absurd (apart place other small before (tile, there, here))
      | inr after ↦ absurd (apart other place less after (tile, here, there))
    ]
  ]

  pub tiles_to : AreApart r.setup.across headers (length headers)
      → ((tile : ℕ) → tile < tile_count (grid_of r.setup) → IsInSlice r.setup.across headers (length headers) tile) → HaveEachTile r headers
  tiles_to apart covered column row left above =
      let found = covered (row * r.setup.across + column) (mul-add-lt row r.setup.across column r.setup.down above left) in (
        found.0,
        found.1,
        tile_at r.setup.across column row (header_at headers found.0) left (within found.0 found.1) found.2,
        λ other less has.
            only_one apart (row * r.setup.across + column) other found.0 less found.1
            (has_tile r.setup.across column row (header_at headers other) has) found.2,
      )

  module _ (h : HaveEachTile r headers) where
    pub apart_from : ((place : ℕ) → place < length headers → (header_at headers place).y + (header_at headers place).h ≤ r.setup.down)
        → AreApart r.setup.across headers (length headers)
    apart_from rows k j less before shared =
        let a = shared.1 in
        let small : j < length headers = omega (arith, less, before) in
        let left = a.left_of in
        let inside : a.column < r.setup.across = omega (arith, left, within j small) in
        let high = a.above in
        let above : a.row < r.setup.down = omega (arith, high, rows j small) in
        let one = h a.column a.row inside above in
        let there = subst (HasTile r.setup.across (header_at headers k)) a.place shared.2 in
        let own : j ≡ one.0 = one.3 j small (a.right_of, a.left_of, a.below, a.above) in
        let other : k ≡ one.0 = one.3 k less (tile_at r.setup.across a.column a.row (header_at headers k) inside (within k less) there) in
        omega (arith, own, other, before)

    pub covered_from : 1 ≤ r.setup.across → (tile : ℕ) → tile < tile_count (grid_of r.setup) → IsInSlice r.setup.across headers (length headers) tile
    covered_from some tile less =
        let whole : tile / r.setup.across * r.setup.across + tile % r.setup.across ≡ tile = div-add-mod' tile r.setup.across in
        let left : tile % r.setup.across < r.setup.across = mod_below tile r.setup.across (omega (arith, some)) in
        let above : tile / r.setup.across < r.setup.down = (row-Below tile r.setup.across r.setup.across r.setup.down less (omega arith)).1 in
        let one = h (tile % r.setup.across) (tile / r.setup.across) left above in (
          one.0,
          one.1,
          subst (HasTile r.setup.across (header_at headers one.0)) whole
              (has_tile r.setup.across (tile % r.setup.across) (tile / r.setup.across) (header_at headers one.0) one.2),
        )
