-- What a frame is asked to be, and what a made frame is (RFC 9043, sections 4.4 to 4.9).
use Rattle.std.specs.Prelude.{◌≡◌, ◌==◌, ℕ, ◌*◌, ◌<◌, List, length, map, slice_index_or}
use Rattle.ffv1_range.specs.Setup.{SetupValue}
use Rattle.ffv1_range.specs.Tiles.{grid_of, tile_count, plane_count, plane_rect}
use Rattle.ffv1_range.specs.Header.{IsHeadOf, header_limits}
use Rattle.ffv1_range.specs.declared.head.SliceHead.{SliceHead}
use Rattle.ffv1_plane.specs.Picture.{IsPictureOf, samples_of}
use Rattle.ffv1_range.specs.TileHeaders.{profile_rules}
use Rattle.ffv1_slice.specs.Chain.{status_before}
use Rattle.ffv1_slice.specs.Slices.{content_of, IsSliceOf, IsOriginal}
use Rattle.ffv1_vectors.specs.declared.frame.FrameSpec.{FrameSpec}
use Rattle.ffv1_vectors.specs.declared.frame.TileSpec.{TileSpec}

-- ---- what is asked

-- the samples of each plane of a tile
abbrev pub asked_planes : TileSpec → List (List ℕ)
asked_planes spec = map (λ plane. plane.items) spec.planes.items

-- the header of a tile
abbrev pub asked_head : ℕ → TileSpec → SliceHead
asked_head tile spec =
    record {
      tile = tile;
      table_y = spec.table_y;
      table_c = spec.table_c;
      picture_structure = spec.picture_structure;
      sar_num = spec.sar_num;
      sar_den = spec.sar_den;
    }

-- The setup has the tables that are named, and the planes are as many as it has, each of the size that the tile has in it.
pub record FitsTile (setup : SetupValue) (tile : ℕ) (spec : TileSpec) : Type 0 where
  pub luma_table : spec.table_y < length setup.sets
  pub chroma_table : spec.table_c < length setup.sets
  pub count : length spec.planes.items ≡ plane_count (grid_of setup)
  pub sizes :
      (plane : ℕ) → plane < length spec.planes.items
      → length (samples_of (asked_planes spec) plane) ≡ (plane_rect (grid_of setup) tile plane).w * (plane_rect (grid_of setup) tile plane).h

-- The tiles are as many as the setup has, and each fits.
pub record FitsSetup (setup : SetupValue) (spec : FrameSpec) : Type 0 where
  pub count : length spec.tiles.items ≡ tile_count (grid_of setup)
  pub each : (tile : ℕ) (d : TileSpec) → tile < length spec.tiles.items → FitsTile setup tile (slice_index_or spec.tiles.items tile d)

-- ---- what is made

-- The slice reads as that of the tile, and its header, its picture and its error status are those asked for.
pub record IsMadeSlice (setup : SetupValue) (tile : ℕ) (spec : TileSpec) (slice : List ℕ) : Type 0 where
  pub is_slice : IsSliceOf (profile_rules setup) slice (tile == 0) tile
  pub status : status_before slice (length slice) ≡ spec.status
  pub place : ℕ
  pub head : IsHeadOf (header_limits setup) (content_of slice) (tile == 0) (asked_head tile spec) place
  pub spare_bits : ℕ
  pub picture : IsPictureOf setup tile (content_of slice) (record { planes = asked_planes spec; spare_bits = spare_bits })

-- The payload is an original of one slice a tile, each made as asked for.
pub record IsMadeFrame (setup : SetupValue) (spec : FrameSpec) (payload : List ℕ) : Type 0 where
  pub slices : List (List ℕ)
  pub original : IsOriginal (profile_rules setup) payload slices
  pub each :
      (tile : ℕ) (d : TileSpec) (e : List ℕ) → tile < length slices
      → IsMadeSlice setup tile (slice_index_or spec.tiles.items tile d) (slice_index_or slices tile e)
