-- Frames: a payload of one slice a tile in tile order, and its picture.
use Rattle.std.specs.Prelude.{◌≡◌, ◌==◌, ℕ, ◌<◌, List, [], map, reverse, length, Option, Some, Ok, slice_index_or}
use Rattle.ffv1_range.specs.Setup.{SetupValue}
use Rattle.ffv1_range.specs.TileHeaders.{profile_rules}
use Rattle.ffv1_range.specs.Tiles.{grid_of, tile_count}
use Rattle.ffv1_slice.specs.Chain.{IsEnd, LinkValue}
use Rattle.ffv1_slice.specs.Walk.{links_of}
use Rattle.ffv1_slice.specs.Slices.{content_of, slice_read}
use Rattle.ffv1_picture.specs.TilePictures.{SpellsPlanes}
use Rattle.ffv1_picture.specs.WholePicture.{Planes, whole_picture}
use Rattle.ffv1_picture.specs.declared.frame.Frame.{Frame}

-- ---- frames of samples

abbrev pub planes_of : Frame → Planes
planes_of frame = map (λ plane. plane.items) frame.planes.items

-- The frame is that of these pictures of its tiles: of the setup's size, with the samples of the greatest tiles.
pub record IsFrameOf (setup : SetupValue) (pictures : List (Option Planes)) (frame : Frame) : Type 0 where
  pub width : frame.width ≡ setup.width
  pub height : frame.height ≡ setup.height
  pub has_chroma : frame.has_chroma ≡ setup.has_chroma
  pub shift_h : frame.shift_h ≡ setup.shift_h
  pub shift_v : frame.shift_v ≡ setup.shift_v
  pub planes : planes_of frame ≡ whole_picture (grid_of setup) pictures

-- ---- payloads

-- The chain reaches the payload's start, and has as many links as there are tiles (RFC 9043, section 4.9).
pub record HasWholeChain (setup : SetupValue) (payload : List ℕ) : Type 0 where
  pub whole : IsEnd payload 0
  pub count : length (links_of payload) ≡ tile_count (grid_of setup)

-- the links of a payload, from its front
abbrev pub links_from_front : List ℕ → List LinkValue
links_from_front payload = reverse (links_of payload)

-- no link
abbrev pub no_link : LinkValue
no_link = record { start = 0; bytes = [] }

abbrev pub link_at : List LinkValue → ℕ → LinkValue
link_at links place = slice_index_or links place no_link

-- The link at the place is a slice, of the tile of that number. It is read as the payload's first where it begins at its start.
abbrev pub IsInOrder : SetupValue → List LinkValue → ℕ → Type 0
IsInOrder setup links place = slice_read (profile_rules setup) (link_at links place).bytes ((link_at links place).start == 0) ≡ Ok place

-- A payload of one slice a tile, in tile order.
pub record IsOrdered (setup : SetupValue) (payload : List ℕ) : Type 0 where
  pub chain : HasWholeChain setup payload
  pub each : (place : ℕ) → place < tile_count (grid_of setup) → IsInOrder setup (links_from_front payload) place

-- the content of the slice of a tile
abbrev pub content_at : List LinkValue → ℕ → List ℕ
content_at links tile = content_of (link_at links tile).bytes

-- The slice of the tile spells a picture.
abbrev pub HasPicture : SetupValue → List LinkValue → ℕ → Type 0
HasPicture setup links tile = (planes : Planes) × (spare : ℕ) × SpellsPlanes setup tile (content_at links tile) planes spare

-- The payload spells these pictures: its slices are in tile order, and each spells that of its tile.
pub record SpellsPictures (setup : SetupValue) (payload : List ℕ) (pictures : List Planes) : Type 0 where
  pub ordered : IsOrdered setup payload
  pub count : length pictures ≡ tile_count (grid_of setup)
  pub each : (tile : ℕ) → tile < tile_count (grid_of setup) → (spare : ℕ)
      × SpellsPlanes setup tile (content_at (links_from_front payload) tile) (slice_index_or pictures tile []) spare

-- The slices of the tiles below a number spell these pictures, and the frame is that of them.
pub record IsDrawnOf (setup : SetupValue) (links : List LinkValue) (tiles : ℕ) (frame : Frame) : Type 0 where
  pub pictures : List Planes
  pub count : length pictures ≡ tiles
  pub each : (tile : ℕ) → tile < tiles → (spare : ℕ) × SpellsPlanes setup tile (content_at links tile) (slice_index_or pictures tile []) spare
  pub is_frame : IsFrameOf setup (map Some pictures) frame

-- The frame that a payload spells: its slices are in tile order, each spells a picture, and the frame is that of the pictures.
pub record IsDecodedFrame (setup : SetupValue) (payload : List ℕ) (frame : Frame) : Type 0 where
  pub ordered : IsOrdered setup payload
  pub drawn : IsDrawnOf setup (links_from_front payload) (tile_count (grid_of setup)) frame
