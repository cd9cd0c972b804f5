-- Why a payload is no frame: its first fault.
use Rattle.std.specs.Prelude.{◌≡◌, ◌≢◌, ◌==◌, ℕ, ◌<◌, List, Ok, Err, length}
use Rattle.ffv1_range.specs.Setup.{SetupValue}
use Rattle.ffv1_range.specs.TileHeaders.{profile_rules}
use Rattle.ffv1_slice.specs.Chain.{LinkValue}
use Rattle.ffv1_slice.specs.Slices.{slice_read}
use Rattle.ffv1_picture.specs.TilePictures.{IsUnreadable}
use Rattle.ffv1_picture.specs.Frames.{links_from_front, link_at, content_at, HasWholeChain, IsInOrder, IsOrdered, HasPicture}
use Rattle.ffv1_picture.specs.declared.fault.FrameFault.{FrameFault}
use Rattle.ffv1_picture.specs.declared.fault.FrameFault.TheVariants.{Chain, Slice, Order, Tile, Memory}

-- the links before a place are in order
abbrev pub AreInOrderBefore : SetupValue → List LinkValue → ℕ → Type 0
AreInOrderBefore setup links place = (p : ℕ) → p < place → IsInOrder setup links p

-- The first link that is no slice, or one of another tile.
abbrev pub IsFirstDisorder : SetupValue → List LinkValue → FrameFault → Type 0
IsFirstDisorder setup links (Slice place cause) =
    (place < length links) × AreInOrderBefore setup links place
    × (slice_read (profile_rules setup) (link_at links place).bytes ((link_at links place).start == 0) ≡ Err cause)
IsFirstDisorder setup links (Order place) =
    (place < length links) × AreInOrderBefore setup links place
    × ((tile : ℕ) × (slice_read (profile_rules setup) (link_at links place).bytes ((link_at links place).start == 0) ≡ Ok tile) × (tile ≢ place))
IsFirstDisorder setup links fault = ⊥

-- The first tile whose slice spells no picture, or Memory.
abbrev pub IsFirstUnreadable : SetupValue → List LinkValue → FrameFault → Type 0
IsFirstUnreadable setup links (Tile tile cause) =
    (tile < length links) × ((t : ℕ) → t < tile → HasPicture setup links t) × IsUnreadable setup tile (content_at links tile) cause
IsFirstUnreadable setup links Memory = Unit {0}
IsFirstUnreadable setup links fault = ⊥

-- The first fault of a payload: its chain; then for each place upwards whether there is a slice, of the tile of that number; then
-- for each tile upwards whether its slice spells a picture. As the slice has a header of its tile, a code after that can't be read.
-- Memory is reported for no payload whose chain is at fault.
abbrev pub IsFirstFault : SetupValue → List ℕ → FrameFault → Type 0
IsFirstFault setup payload Chain = ¬ HasWholeChain setup payload
IsFirstFault setup payload (Slice place cause) = HasWholeChain setup payload × IsFirstDisorder setup (links_from_front payload) (Slice place cause)
IsFirstFault setup payload (Order place) = HasWholeChain setup payload × IsFirstDisorder setup (links_from_front payload) (Order place)
IsFirstFault setup payload (Tile tile cause) = IsOrdered setup payload × IsFirstUnreadable setup (links_from_front payload) (Tile tile cause)
IsFirstFault setup payload Memory = HasWholeChain setup payload
