-- Whole frames.
use Rattle.std.specs.Prelude.{ℕ, List, slice_range}
use Rattle.ffv1_bits.specs.Parity.{PassesParity}
use Rattle.ffv1_slice.specs.Chain.{IsEnd, IsLinkOf}
use Rattle.ffv1_splice.specs.Pieces.{HasContent}
use Rattle.ffv1_splice.specs.Splice.{SplicedValue, IsSpliceOf, IsGivenBack}

-- A frame that is whole by its own footers: its chain is whole, and each of its links has content and passes its parity.
pub record IsWholeFrame (frame : List ℕ) : Type 0 where
  pub whole : IsEnd frame 0
  pub content : (start end : ℕ) → IsLinkOf frame start end → HasContent start end
  pub passes : (start end : ℕ) → IsLinkOf frame start end → PassesParity (slice_range frame start end)

-- ---- laws

-- A frame that is given back is whole.
abbrev pub GivenBackIsWhole : Type 0
GivenBackIsWhole =
    (copies : List (List ℕ)) (spliced : SplicedValue) → IsSpliceOf copies spliced → IsGivenBack spliced → IsWholeFrame spliced.payload
