-- Laws of holdings, each the contract of a public function.
use Rattle.std.specs.Prelude.{◌≡◌, ◌↔◌, ℕ, true, List, Contains}
use Rattle.sha2.specs.Sha256.{sha256}
use Rattle.ffv1_range.specs.TileHeaders.{TileRules}
use Rattle.ffv1_slice.specs.Slices.{IsFoundIn, IsOriginal}
use Rattle.ffv1_holding.specs.Sets as set
use Rattle.ffv1_holding.specs.Reels.{Reel}
use Rattle.ffv1_holding.specs.Contents.{holding_of, slices_of_copies, origins_of_copies}
use Rattle.ffv1_holding.specs.Originals.{AreCopiesOfSlices, AreNear, HoldsExactly}

-- Where every slice that is found in the copies is the original's for its tile, and each of the original's is found in some copy, the
-- holding of the copies holds exactly the original's slices.
abbrev pub CopiesHoldTheOriginal : Type 0
CopiesHoldTheOriginal =
    (reel : Reel) (payload : List ℕ) (slices copies : List (List ℕ)) → IsOriginal reel.rules payload slices → AreCopiesOfSlices reel.rules slices copies
    → HoldsExactly (holding_of reel copies) slices

-- Copies that are near an original, with each of its slices intact in one of them, hold exactly the original's slices.
abbrev pub NearCopiesHoldTheOriginal : Type 0
NearCopiesHoldTheOriginal =
    (reel : Reel) (original : List ℕ) (slices copies : List (List ℕ)) → AreNear reel.rules original slices copies → HoldsExactly (holding_of reel copies) slices

-- A slice of a tile is held of copies exactly where it is found in one of them.
abbrev pub HeldIsFound : Type 0
HeldIsFound =
    (rules : TileRules) (copies : List (List ℕ)) (tile : ℕ) (slice : List ℕ)
    → (set.contains (slices_of_copies rules copies) (tile, slice) ≡ true) ↔ ((copy : List ℕ) × Contains copies copy × IsFoundIn rules copy tile slice)

-- The origins of a slice that is held of copies are just the digests of those in which it is found.
abbrev pub OriginIsACopy : Type 0
OriginIsACopy =
    (rules : TileRules) (copies : List (List ℕ)) (tile : ℕ) (slice digest : List ℕ)
    → (set.contains (origins_of_copies rules copies) ((tile, slice), digest) ≡ true)
    ↔ ((copy : List ℕ) × Contains copies copy × IsFoundIn rules copy tile slice × (digest ≡ sha256 copy))
