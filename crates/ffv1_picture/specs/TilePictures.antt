-- What the content of a slice spells of its tile, or why it spells nothing (RFC 9043, sections 4.5 to 4.8).
use Rattle.std.specs.Prelude.{ℕ, List, Option, Some, None}
use Rattle.ffv1_range.specs.Setup.{SetupValue}
use Rattle.ffv1_slice.specs.Slices.{content_of}
use Rattle.ffv1_plane.specs.Picture.{IsPictureOf}
use Rattle.ffv1_plane.specs.StuckLaws.{IsRefusedFor}
use Rattle.ffv1_plane.specs.declared.tile.TileFault.{TileFault}
use Rattle.ffv1_picture.specs.WholePicture.{Planes}

-- The content spells these planes of the tile, and then has so many spare bits.
abbrev pub SpellsPlanes : SetupValue → ℕ → List ℕ → Planes → ℕ → Type 0
SpellsPlanes setup tile content planes spare = IsPictureOf setup tile content (record { planes = planes; spare_bits = spare })

-- The picture that a slice of a tile spells, if it spells one: then the tile is decoded.
abbrev pub IsPictureOfSlice : SetupValue → ℕ → List ℕ → Option Planes → Type 0
IsPictureOfSlice setup tile slice (Some planes) = (spare : ℕ) × SpellsPlanes setup tile (content_of slice) planes spare
IsPictureOfSlice setup tile slice None = (planes : Planes) (spare : ℕ) → ¬ SpellsPlanes setup tile (content_of slice) planes spare

-- The content spells no picture of the tile, and this is why.
pub record IsUnreadable (setup : SetupValue) (tile : ℕ) (content : List ℕ) (cause : TileFault) : Type 0 where
  pub no_picture : (planes : Planes) (spare : ℕ) → ¬ SpellsPlanes setup tile content planes spare
  pub is_cause : IsRefusedFor setup tile content cause
