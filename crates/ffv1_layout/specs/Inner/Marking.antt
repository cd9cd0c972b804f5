-- Marks of tiles: which are in a slice.
use Rattle.std.specs.Prelude.{◌≡◌, ℕ, ◌+◌, ◌*◌, ◌<◌, ◌≤◌, ◌⊎◌, Bool, true, false, List, length, Option, Some, None, slice_index_or}
use Rattle.ffv1_range.specs.declared.head.SliceHeader.{SliceHeader}
use Rattle.ffv1_layout.specs.Layout.{header_at, AreApart, IsInSlice, SharesTile}
use Rattle.ffv1_layout.specs.declared.fault.LayoutFault.{LayoutFault}
use Rattle.ffv1_layout.specs.declared.fault.LayoutFault.TheVariants.{Overlap, Uncovered, Memory}

abbrev pub tile_mark : List Bool → ℕ → Bool
tile_mark marks tile = slice_index_or marks tile false

-- Whether none of some tiles is marked: then none is, else one is.
abbrev pub AreFree : List Bool → (ℕ → Type 0) → Bool → Type 0
AreFree marks Among true = (tile : ℕ) → Among tile → tile_mark marks tile ≡ false
AreFree marks Among false = (tile : ℕ) × Among tile × (tile_mark marks tile ≡ true)

-- Some tiles were marked, and all others are as they were.
pub record AreMarked (Among : ℕ → Type 0) (old new : List Bool) : Type 0 where
  pub same_length : length new ≡ length old
  pub these : (tile : ℕ) → Among tile → tile_mark new tile ≡ true
  pub kept : (tile : ℕ) → tile_mark old tile ≡ true → tile_mark new tile ≡ true
  pub only : (tile : ℕ) → tile_mark new tile ≡ true → (tile_mark old tile ≡ true) ⊎ Among tile

-- so many tiles from the first on
abbrev pub IsFrom : ℕ → ℕ → ℕ → Type 0
IsFrom first count tile = (first ≤ tile) × (tile < first + count)

-- the first rows of a slice have the tile
abbrev pub IsInRows : ℕ → SliceHeader → ℕ → ℕ → Type 0
IsInRows across header end tile =
    (column : ℕ) × (row : ℕ) × (tile ≡ row * across + column) × (header.x ≤ column) × (column < header.x + header.w) × (header.y ≤ row) × (row < end)

-- A slice lies in a grid of so many tiles.
pub record FitsGrid (across tiles : ℕ) (header : SliceHeader) : Type 0 where
  pub columns : header.x + header.w ≤ across
  pub rows : (header.y + header.h) * across ≤ tiles

-- The marks are those of the tiles in slices before a place.
pub record AreMarksOf (across : ℕ) (headers : List SliceHeader) (place : ℕ) (marks : List Bool) : Type 0 where
  pub these : (tile : ℕ) → IsInSlice across headers place tile → tile_mark marks tile ≡ true
  pub only : (tile : ℕ) → tile_mark marks tile ≡ true → IsInSlice across headers place tile

-- the least tile that is not marked
abbrev pub IsFirstFree : List Bool → Option ℕ → Type 0
IsFirstFree marks None = (tile : ℕ) → tile < length marks → tile_mark marks tile ≡ true
IsFirstFree marks (Some free) = (free < length marks) × (tile_mark marks free ≡ false) × ((tile : ℕ) → tile < free → tile_mark marks tile ≡ true)

-- ---- all slices

-- each slice lies in the grid
abbrev pub HaveFit : ℕ → ℕ → List SliceHeader → Type 0
HaveFit across tiles headers = (place : ℕ) → place < length headers → FitsGrid across tiles (header_at headers place)

-- Each tile is in one slice and only in one.
pub record AreTilesOf (across tiles : ℕ) (headers : List SliceHeader) : Type 0 where
  pub apart : AreApart across headers (length headers)
  pub covered : (tile : ℕ) → tile < tiles → IsInSlice across headers (length headers) tile

-- why not
abbrev pub IsTileFault : ℕ → ℕ → List SliceHeader → LayoutFault → Type 0
IsTileFault across tiles headers (Overlap place) =
    (place < length headers) × AreApart across headers place × ((other : ℕ) × (other < place) × SharesTile across (header_at headers other) (header_at headers place))
IsTileFault across tiles headers (Uncovered tile) =
    (tile < tiles) × AreApart across headers (length headers) × ¬ IsInSlice across headers (length headers) tile
    × ((lesser : ℕ) → lesser < tile → IsInSlice across headers (length headers) lesser)
IsTileFault across tiles headers Memory = Unit {0}
IsTileFault across tiles headers fault = ⊥
