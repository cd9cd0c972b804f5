-- Tiles of a frame and their places in its planes (RFC 9043, sections 4.6 and 4.7: the pictures that the slices of a
-- frame have, one slice a tile). The place of a tile in a subsampled plane is own, as FFmpeg has it: rounded down.
use Rattle.std.specs.Prelude.{ℕ, zero, suc, ◌≡◌, ◌+◌, ◌-◌, ◌*◌, ◌/◌, ◌%◌, ◌^◌, ◌<◌, ◌≤◌, Bool, if◌then◌else◌}
use Rattle.std.specs.Int.{div_ceil}
use Rattle.ffv1_bits.specs.Limits.{greatest_side, most_tiles}
use Rattle.ffv1_range.specs.Setup.{SetupValue}
use Rattle.ffv1_range.specs.declared.grid.TileRect.{TileRect}

-- a frame's size in samples, its tiles across and down, and how its chroma planes are subsampled
pub record GridValue : Type 0 where
  pub width : ℕ
  pub height : ℕ
  pub across : ℕ
  pub down : ℕ
  pub has_chroma : Bool
  pub shift_h : ℕ
  pub shift_v : ℕ

abbrev pub tile_count : GridValue → ℕ
tile_count g = g.across * g.down

abbrev pub plane_count : GridValue → ℕ
plane_count g = if g.has_chroma then 3 else 1

-- What each grid keeps: it isn't finer than the frame, and not too large.
pub record IsGrid (g : GridValue) : Type 0 where
  pub some_across : 1 ≤ g.across
  pub some_down : 1 ≤ g.down
  pub not_finer_across : g.across ≤ g.width
  pub not_finer_down : g.down ≤ g.height
  pub few_tiles : tile_count g ≤ most_tiles
  pub width_limit : g.width ≤ greatest_side
  pub height_limit : g.height ≤ greatest_side
  pub shift_h_limit : g.shift_h ≤ 4
  pub shift_v_limit : g.shift_v ≤ 4

-- where part i begins of a length that is cut into n parts
abbrev pub part_start : ℕ → ℕ → ℕ → ℕ
part_start len n i = i * len / n

-- some tiles in luma, so many across and down, from the one in column i and row j on
abbrev pub tiles_rect : GridValue → ℕ → ℕ → ℕ → ℕ → TileRect
tiles_rect g i j columns rows =
    record {
      x = part_start g.width g.across i;
      y = part_start g.height g.down j;
      w = part_start g.width g.across (i + columns) - part_start g.width g.across i;
      h = part_start g.height g.down (j + rows) - part_start g.height g.down j;
    }

-- tile t in luma: tiles are counted row by row
abbrev pub tile_rect : GridValue → ℕ → TileRect
tile_rect g t = tiles_rect g (t % g.across) (t / g.across) 1 1

-- a rectangle of luma in a chroma plane: its place is rounded down, its size rounded up
abbrev pub chroma_rect : GridValue → TileRect → TileRect
chroma_rect g r =
    record { x = r.x / 2 ^ g.shift_h; y = r.y / 2 ^ g.shift_v; w = div_ceil r.w (2 ^ g.shift_h); h = div_ceil r.h (2 ^ g.shift_v) }

-- a rectangle of luma in a plane: 0 is luma, the others are chroma
abbrev pub rect_in_plane : GridValue → ℕ → TileRect → TileRect
rect_in_plane g zero r = r
rect_in_plane g (suc plane) r = chroma_rect g r

abbrev pub plane_rect : GridValue → ℕ → ℕ → TileRect
plane_rect g t plane = rect_in_plane g plane (tile_rect g t)

-- the whole frame in a plane
abbrev pub frame_rect : GridValue → ℕ → TileRect
frame_rect g plane = rect_in_plane g plane (record { x = 0; y = 0; w = g.width; h = g.height })

-- the grid of a setup's frames
abbrev pub grid_of : SetupValue → GridValue
grid_of setup =
    record {
      width = setup.width;
      height = setup.height;
      across = setup.across;
      down = setup.down;
      has_chroma = setup.has_chroma;
      shift_h = setup.shift_h;
      shift_v = setup.shift_v;
    }

-- ---- laws

-- The place x, y lies in the rectangle.
pub record IsInside (r : TileRect) (x y : ℕ) : Type 0 where
  pub right_of : r.x ≤ x
  pub left_of : x < r.x + r.w
  pub below : r.y ≤ y
  pub above : y < r.y + r.h

-- Each place of the frame lies in exactly one tile.
abbrev pub EachPlaceInOneTile : Type 0
EachPlaceInOneTile =
    (g : GridValue) → IsGrid g → (x y : ℕ) → x < g.width → y < g.height
    → (t : ℕ) × (t < tile_count g) × IsInside (tile_rect g t) x y
    × ((other : ℕ) → other < tile_count g → IsInside (tile_rect g other) x y → other ≡ t)

-- A tile has at least one sample, and lies in the frame.
pub record IsTileOfFrame (g : GridValue) (r : TileRect) : Type 0 where
  pub some_columns : 0 < r.w
  pub some_rows : 0 < r.h
  pub in_width : r.x + r.w ≤ g.width
  pub in_height : r.y + r.h ≤ g.height

abbrev pub EachTileInFrame : Type 0
EachTileInFrame = (g : GridValue) → IsGrid g → (t : ℕ) → t < tile_count g → IsTileOfFrame g (tile_rect g t)
