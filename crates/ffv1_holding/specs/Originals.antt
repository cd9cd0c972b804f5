-- The holding of the frame that was recorded.
use Rattle.std.specs.Prelude.{◌≡◌, ℕ, ◌<◌, List, Contains, length, slice_index_or}
use Rattle.std.specs.List.{enumerate_from}
use Rattle.ffv1_slice.specs.Slices.{IsFoundIn, IsOriginal}
use Rattle.ffv1_slice.specs.Near.{IsNear, IsIntactIn}
use Rattle.ffv1_range.specs.TileHeaders.{TileRules}
use Rattle.ffv1_holding.specs.Sets as set
use Rattle.ffv1_holding.specs.Contents.{Contents}

-- these slices are held of their tiles, and no others
abbrev pub HoldsExactly : Contents → List (List ℕ) → Type 0
HoldsExactly h slices = h.slices ≡ set.from_list (enumerate_from 0 slices)

-- Each slice that is found in a copy is the original's for its tile, and each of the original's is found in some copy.
pub record AreCopiesOfSlices (rules : TileRules) (slices copies : List (List ℕ)) : Type 0 where
  pub only : (copy : List ℕ) (tile : ℕ) (bytes : List ℕ) → Contains copies copy → IsFoundIn rules copy tile bytes → (tile < length slices)
      × (bytes ≡ slice_index_or slices tile bytes)
  pub all : (tile : ℕ) (d : List ℕ) → tile < length slices → (copy : List ℕ) × Contains copies copy × IsFoundIn rules copy tile (slice_index_or slices tile d)

-- Each of the copies is near the original, and each of the original's slices is intact in one of them.
pub record AreNear (rules : TileRules) (original : List ℕ) (slices copies : List (List ℕ)) : Type 0 where
  pub is_original : IsOriginal rules original slices
  pub near : (copy : List ℕ) → Contains copies copy → IsNear rules original slices copy
  pub intact : (tile : ℕ) (d : List ℕ) → tile < length slices → (copy : List ℕ) × Contains copies copy
      × IsIntactIn slices copy tile (slice_index_or slices tile d)
