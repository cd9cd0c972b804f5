-- What the definition of where a content is stuck gives: laws over the definitions alone.
use Rattle.std.specs.Prelude.{◌≡◌, ◌≢◌, ℕ, ◌<◌, ◌==◌, Bool, List, drop, Err}
use Rattle.ffv1_bits.specs.Bits.{bits_of}
use Rattle.ffv1_range.specs.Header.{IsHeadOf, header_limits, head_read}
use Rattle.ffv1_range.specs.Setup.{SetupValue, IsInProfile}
use Rattle.ffv1_range.specs.Tiles.{grid_of, tile_count}
use Rattle.ffv1_range.specs.declared.head.SliceHead.{SliceHead}
use Rattle.ffv1_rice.specs.declared.code.CodeFault.{CodeFault}
use Rattle.ffv1_plane.specs.Picture.{PictureValue, ArePlanesOf, PictureSpells, IsPictureOf}
use Rattle.ffv1_plane.specs.Stuck.{AreBitsStuck, IsStuckAt}
use Rattle.ffv1_plane.specs.declared.tile.TileFault.{TileFault}
use Rattle.ffv1_plane.specs.declared.tile.TileFault.TheVariants.{Head, OtherTile, Code, Memory}

-- Every picture of a tile has a spelling.
abbrev pub EachPictureIsSpelled : Type 0
EachPictureIsSpelled =
    (setup : SetupValue) (head : SliceHead) (planes : List (List ℕ)) → ArePlanesOf setup head.tile planes → (words : List Bool)
    × PictureSpells setup head planes words

-- What was read before a sample goes on to a spelling of the whole picture, so a content is stuck there by it alone.
abbrev pub FrontsGoOn : Type 0
FrontsGoOn =
    (setup : SetupValue) (tile : ℕ) (content : List ℕ) (head : SliceHead) (place : ℕ) (planes : List (List ℕ)) (fault : CodeFault) (plane y x : ℕ)
    (front : List Bool)
    → IsInProfile setup → tile < tile_count (grid_of setup) → IsHeadOf (header_limits setup) content (tile == 0) head place → head.tile ≡ tile
    → ArePlanesOf setup tile planes
    → AreBitsStuck setup head planes (bits_of (drop place content)) fault plane y x front → IsStuckAt setup tile content fault plane y x

-- A content that is stuck spells no picture ..
abbrev pub StuckSpellsNothing : Type 0
StuckSpellsNothing =
    (setup : SetupValue) (tile : ℕ) (content : List ℕ) (fault : CodeFault) (plane y x : ℕ) (picture : PictureValue) → IsInProfile setup
    → tile < tile_count (grid_of setup)
    → IsStuckAt setup tile content fault plane y x → IsPictureOf setup tile content picture → ⊥

-- .. and is so with one fault and at one sample.
pub record IsOnePlace (fault other : CodeFault) (plane level y v x u : ℕ) : Type 0 where
  pub fault_same : fault ≡ other
  pub plane_same : plane ≡ level
  pub row_same : y ≡ v
  pub column_same : x ≡ u

abbrev pub StuckIsOne : Type 0
StuckIsOne =
    (setup : SetupValue) (tile : ℕ) (content : List ℕ) (fault other : CodeFault) (plane level y v x u : ℕ) → IsInProfile setup
    → tile < tile_count (grid_of setup)
    → IsStuckAt setup tile content fault plane y x → IsStuckAt setup tile content other level v u → IsOnePlace fault other plane level y v x u

-- ---- the results of a tile

-- A content is refused so: its header can't be read, or is that of another tile, or a word after it can't be read.
abbrev pub IsRefusedFor : SetupValue → ℕ → List ℕ → TileFault → Type 0
IsRefusedFor setup tile content (Head fault) = head_read (header_limits setup) content (tile == 0) ≡ Err fault
IsRefusedFor setup tile content OtherTile = (head : SliceHead) × (place : ℕ) × IsHeadOf (header_limits setup) content (tile == 0) head place
    × (head.tile ≢ tile)
IsRefusedFor setup tile content (Code fault plane y x) = IsStuckAt setup tile content fault plane y x
IsRefusedFor setup tile content Memory = ⊥

-- A content that is refused has no picture, and is refused for one fault.
pub record OneResult : Type 0 where
  pub no_picture : (setup : SetupValue) (tile : ℕ) (content : List ℕ) (fault : TileFault) (picture : PictureValue) → IsInProfile setup
      → tile < tile_count (grid_of setup)
      → IsRefusedFor setup tile content fault → IsPictureOf setup tile content picture → ⊥
  pub one_fault : (setup : SetupValue) (tile : ℕ) (content : List ℕ) (fault other : TileFault) → IsInProfile setup → tile < tile_count (grid_of setup)
      → IsRefusedFor setup tile content fault → IsRefusedFor setup tile content other → fault ≡ other
