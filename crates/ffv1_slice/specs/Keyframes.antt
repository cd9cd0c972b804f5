-- Laws of slices of frames that are no keyframes (RFC 9043, section 4.4).
use Rattle.std.specs.Prelude.{◌≡◌, ℕ, Bool, true, false, List}
use Rattle.std.specs.Ordering.{nat_cmp}
use Rattle.std.specs.Cmp.Lexicographic.{slice_cmp}
use Rattle.std.specs.declared.cmp.Ordering.TheVariants.{Less}
use Rattle.ffv1_bits.specs.Parity.{AreBytes}
use Rattle.ffv1_range.specs.TileHeaders.{TileRules}
use Rattle.ffv1_range.specs.Frames.{by_frames, HasKey}
use Rattle.ffv1_range.specs.declared.frames.Frames.TheVariants.{Any}
use Rattle.ffv1_slice.specs.Slices.{content_of, IsSliceOf}

-- A slice is one of any frame, of the same tile. One of any frame is one by the rules, unless it is its payload's first with keyframe bit 0.
pub record AnyFramesAreWider : Type 0 where
  pub wider : (rules : TileRules) (slice : List ℕ) (first : Bool) (tile : ℕ) → IsSliceOf rules slice first tile
      → IsSliceOf (by_frames Any rules) slice first tile
  pub narrower : (rules : TileRules) (slice : List ℕ) (first : Bool) (tile : ℕ) → IsSliceOf (by_frames Any rules) slice first tile
      → (first ≡ true → HasKey rules (content_of slice) false → ⊥) → IsSliceOf rules slice first tile

-- Of two first slices with Golomb-Rice codes, that of keyframe bit 0 comes first in the order of their bytes.
abbrev pub KeyframesSortLast : Type 0
KeyframesSortLast =
    (rules : TileRules) (between key : List ℕ) → rules.has_codes ≡ true → AreBytes between → AreBytes key → HasKey rules (content_of between) false
    → HasKey rules (content_of key) true → slice_cmp nat_cmp between key ≡ Less
