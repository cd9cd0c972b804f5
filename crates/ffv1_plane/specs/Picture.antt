-- A tile's picture, and the content of a slice that spells it (RFC 9043, sections 3.8.2 and 4.5 to 4.8).
use Rattle.std.specs.Prelude.{◌≡◌, ℕ, zero, suc, ◌<◌, ◌==◌, Bool, List, [], ◌++◌, length, drop, ℤ, slice_index_or}
use Rattle.ffv1_bits.specs.Bits.{bits_of}
use Rattle.ffv1_range.specs.Header.{IsHeadOf, header_limits}
use Rattle.ffv1_range.specs.Setup.{SetupValue, IsInProfile, set_entry}
use Rattle.ffv1_range.specs.Tiles.{grid_of, plane_count, plane_rect, tile_count}
use Rattle.ffv1_range.specs.declared.grid.TileRect.{TileRect}
use Rattle.ffv1_range.specs.declared.head.SliceHead.{SliceHead}
use Rattle.ffv1_plane.specs.Samples.{Plane, plane_of, coding_at, IsPlaneOfSize}
use Rattle.ffv1_plane.specs.Lines.{Line, CodedPlanes, plane_after_plane, LinesSpell}

-- The planes Y, or Y, Cb and Cr, each row by row, and how many bits stand after the last code.
pub record PictureValue : Type 0 where
  pub planes : List (List ℕ)
  pub spare_bits : ℕ

abbrev pub samples_of : List (List ℕ) → ℕ → List ℕ
samples_of planes plane = slice_index_or planes plane []

-- ---- the planes of a tile

-- The samples fill the rectangle, a byte each.
abbrev pub IsPlaneIn : TileRect → List ℕ → Type 0
IsPlaneIn rect samples = IsPlaneOfSize 8 rect.w rect.h samples

-- The planes are those of a tile: as many as the setup has, each of the size that the tile has in it.
pub record ArePlanesOf (setup : SetupValue) (tile : ℕ) (planes : List (List ℕ)) : Type 0 where
  pub count : length planes ≡ plane_count (grid_of setup)
  pub sizes : (plane : ℕ) → plane < plane_count (grid_of setup) → IsPlaneIn (plane_rect (grid_of setup) tile plane) (samples_of planes plane)

-- Y is coded by the header's first set of tables, Cb and Cr by its second.
abbrev pub plane_set : SliceHead → ℕ → ℕ
plane_set head zero = head.table_y
plane_set head (suc plane) = head.table_c

-- these samples as plane number `plane` of a header's tile
abbrev pub shaped_plane : SetupValue → SliceHead → ℕ → List ℕ → Plane
shaped_plane setup head plane samples = plane_of (plane_rect (grid_of setup) head.tile plane).w (coding_at 8 (set_entry setup (plane_set head plane))) samples

abbrev pub tile_plane : SetupValue → SliceHead → List (List ℕ) → ℕ → Plane
tile_plane setup head planes plane = shaped_plane setup head plane (samples_of planes plane)

-- ---- the bits of a picture

-- the planes that share adaptive states: Y has its own, Cb and Cr have some together (section 3.8.2.4)
abbrev pub plane_group : ℕ → ℕ
plane_group zero = 0
plane_group (suc plane) = 1

-- The planes of a picture, as they are coded together: the run index starts anew at the first row of each.
abbrev pub picture_planes : SetupValue → SliceHead → List (List ℕ) → CodedPlanes
picture_planes setup head planes = record { plane = tile_plane setup head planes; group = plane_group; is_anew = λ line. line.row == 0 }

abbrev pub plane_height : SetupValue → ℕ → ℕ → ℕ
plane_height setup tile plane = (plane_rect (grid_of setup) tile plane).h

-- the lines of a picture in coded order: plane after plane
abbrev pub picture_lines : SetupValue → ℕ → List Line
picture_lines setup tile = plane_after_plane (plane_height setup tile) (plane_count (grid_of setup))

-- no values were coded yet
abbrev pub no_values : ℕ → List ℤ
no_values context = []

-- the bits of a whole picture: the states start anew in each slice
abbrev pub PictureSpells : SetupValue → SliceHead → List (List ℕ) → List Bool → Type 0
PictureSpells setup head planes bits = (last : ℕ) × LinesSpell (picture_planes setup head planes) (λ group. no_values) 0 (picture_lines setup head.tile) bits last

-- The picture of a tile that the content of its slice spells: a header of that tile, the payload's first where the tile is
-- 0, then the bits of the planes, and then spare bits.
pub record IsPictureOf (setup : SetupValue) (tile : ℕ) (content : List ℕ) (picture : PictureValue) : Type 0 where
  pub head : SliceHead
  pub place : ℕ
  pub is_head : IsHeadOf (header_limits setup) content (tile == 0) head place
  pub of_tile : head.tile ≡ tile
  pub planes : ArePlanesOf setup tile picture.planes
  pub words : List Bool
  pub spare : List Bool
  pub begins : bits_of (drop place content) ≡ words ++ spare
  pub spells : PictureSpells setup head picture.planes words
  pub spare_bits : picture.spare_bits ≡ length spare

-- ---- laws

-- No bits begin with the spellings of two pictures of a tile, nor with two spellings of one; so a content has one picture.
pub record OneReading : Type 0 where
  pub planes :
      (setup : SetupValue) (head : SliceHead) (planes others : List (List ℕ)) (words more rest tail : List Bool) → IsInProfile setup
      → head.tile < tile_count (grid_of setup)
      → ArePlanesOf setup head.tile planes → ArePlanesOf setup head.tile others → PictureSpells setup head planes words → PictureSpells setup head others more
      → words ++ rest ≡ more ++ tail → (planes ≡ others) × (rest ≡ tail)
  pub pictures :
      (setup : SetupValue) (tile : ℕ) (content : List ℕ) (picture other : PictureValue) → IsInProfile setup → tile < tile_count (grid_of setup)
      → IsPictureOf setup tile content picture → IsPictureOf setup tile content other → picture ≡ other
