-- Faults of parts of a frame as those of the whole.
use Rattle.std.proofs.Common.{◌≡◌, ◌⊎◌, ◌<◌, ℕ, List, length, Result, Ok, Err, IfErr, inl, inr}
use Rattle.ffv1_range.specs.Setup.{SetupValue}
use Rattle.ffv1_slice.specs.Chain.{LinkValue}
use Rattle.ffv1_plane.specs.declared.tile.TileFault.{TileFault}
use Rattle.ffv1_plane.specs.declared.tile.TileFault.TheVariants as tiles
use Rattle.ffv1_picture.specs.Frames.{links_from_front, content_at, HasPicture, HasWholeChain, IsOrdered}
use Rattle.ffv1_picture.specs.TilePictures.{IsUnreadable}
use Rattle.ffv1_picture.specs.FrameFaults.{IsFirstDisorder, IsFirstUnreadable, IsFirstFault}
use Rattle.ffv1_picture.specs.Inner.FrameFaults.{fault_of_tile}
use Rattle.ffv1_picture.specs.declared.fault.FrameFault.{FrameFault}
use Rattle.ffv1_picture.specs.declared.fault.FrameFault.TheVariants.{Chain, Slice, Order, Tile, Memory}

pub first_unreadable : (setup : SetupValue) (links : List LinkValue) (tile : ℕ) (cause : TileFault) → tile < length links
    → ((t : ℕ) → t < tile → HasPicture setup links t)
    → (cause ≡ tiles.Memory) ⊎ IsUnreadable setup tile (content_at links tile) cause → IsFirstUnreadable setup links (fault_of_tile tile cause)
first_unreadable setup links tile (tiles.Head fault) lt before (inl is) = absurd (cc)
first_unreadable setup links tile (tiles.Head fault) lt before (inr why) = (lt, before, why)
first_unreadable setup links tile tiles.OtherTile lt before (inl is) = absurd (cc)
first_unreadable setup links tile tiles.OtherTile lt before (inr why) = (lt, before, why)
first_unreadable setup links tile (tiles.Code fault plane y x) lt before (inl is) = absurd (cc)
first_unreadable setup links tile (tiles.Code fault plane y x) lt before (inr why) = (lt, before, why)
first_unreadable setup links tile tiles.Memory lt before why = tt

-- a fault of the order is the first of a payload with its whole chain
pub disorder_is_first : (setup : SetupValue) (payload : List ℕ) → HasWholeChain setup payload → (fault : FrameFault)
    → IsFirstDisorder setup (links_from_front payload) fault → IsFirstFault setup payload fault
disorder_is_first setup payload chain Chain first = absurd first
disorder_is_first setup payload chain (Slice place cause) first = (chain, first)
disorder_is_first setup payload chain (Order place) first = (chain, first)
disorder_is_first setup payload chain (Tile tile cause) first = absurd first
disorder_is_first setup payload chain Memory first = absurd first

unreadable_is_first : (setup : SetupValue) (payload : List ℕ) → IsOrdered setup payload → (fault : FrameFault)
    → IsFirstUnreadable setup (links_from_front payload) fault → IsFirstFault setup payload fault
unreadable_is_first setup payload ordered Chain first = absurd first
unreadable_is_first setup payload ordered (Slice place cause) first = absurd first
unreadable_is_first setup payload ordered (Order place) first = absurd first
unreadable_is_first setup payload ordered (Tile tile cause) first =
    (ordered, first)
unreadable_is_first setup payload ordered Memory first = ordered.chain

-- a fault of the tiles is the first of an ordered payload
pub first_fault : {A : Type 0} (setup : SetupValue) (payload : List ℕ) → IsOrdered setup payload → (r : Result A FrameFault)
    → IfErr r (IsFirstUnreadable setup (links_from_front payload)) → IfErr r (IsFirstFault setup payload)
first_fault setup payload ordered (Ok a) is = is
first_fault setup payload ordered (Err fault) is = unreadable_is_first setup payload ordered fault is
