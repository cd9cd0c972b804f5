-- What is said of any function that gives a content its tile is said of holdings too: of the function by which a recording's rules read a
-- header, the notions are those of the program.
use Rattle.std.specs.Prelude.{ℕ, ◌*◌, ◌≤◌, ◌≡◌, ◌↔◌, true, List, length, Result, Ok, Err, Option, Some, None}
use Rattle.ffv1_bits.specs.Limits.{payload_limit}
use Rattle.ffv1_range.specs.TileHeaders.{TileRules, tile_read}
use Rattle.ffv1_range.specs.declared.head.HeadFault.{HeadFault}
use Rattle.ffv1_slice.specs.Slices as slices_of
use Rattle.ffv1_holding.specs.Sets as set
use Rattle.ffv1_holding.specs.Reels.{Reel, reel_tiles}
use Rattle.ffv1_holding.specs.Contents.{slices_of_copies, holding_of}
use Rattle.ffv1_holding.specs.TileState.{AreSettled, restored_payload}
use Rattle.ffv1_holding.specs.Originals.{AreCopiesOfSlices}
use Rattle.ffv1_holding.specs.Small.{TileOf, IsFound, IsRestoredFrom, IsOriginalPayload, AreCopies}

abbrev pub tile_or_none : Result ℕ HeadFault → Option ℕ
tile_or_none (Ok tile) = Some tile
tile_or_none (Err fault) = None

-- the tile that the header of a content names, where it is one by these rules
unfoldable pub tile_by : TileRules → TileOf
tile_by rules content first = tile_or_none (tile_read rules content first)

-- ---- laws

-- What is found in copies is what a holding of them holds.
abbrev pub FoundIsHeld : Type 0
FoundIsHeld =
    (rules : TileRules) (copies : List (List ℕ)) (tile : ℕ) (slice : List ℕ)
    → IsFound (tile_by rules) copies tile slice ↔ (set.contains (slices_of_copies rules copies) (tile, slice) ≡ true)

-- What is restored from copies is what a holding of them restores, if it does.
abbrev pub RestoredIsOfHolding : Type 0
RestoredIsOfHolding =
    (reel : Reel) (copies : List (List ℕ)) (payload : List ℕ)
    → IsRestoredFrom (tile_by reel.rules) (reel_tiles reel) copies payload
    ↔ (AreSettled (holding_of reel copies) × (payload ≡ restored_payload (holding_of reel copies)))

-- Originals are those of a recording's frames, ..
abbrev pub OriginalIsOfRules : Type 0
OriginalIsOfRules =
    (rules : TileRules) (payload : List ℕ) (slices : List (List ℕ))
    → slices_of.IsOriginal rules payload slices
    ↔ (IsOriginalPayload (tile_by rules) (rules.limits.across * rules.limits.down) payload slices × (length payload ≤ payload_limit))

-- .. and copies of one theirs.
abbrev pub CopiesAreOfRules : Type 0
CopiesAreOfRules =
    (rules : TileRules) (slices copies : List (List ℕ)) → AreCopiesOfSlices rules slices copies ↔ AreCopies (tile_by rules) slices copies
