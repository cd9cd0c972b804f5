-- A list of ranges of a file as text (own): a line for each range, of two decimal numbers: where it begins, counted in bytes from the
-- file's start, and how many bytes it has.
use Rattle.std.specs.Prelude.{ℕ, ◌≡◌, ◌+◌, ◌≤◌, List, [], ◌∷◌, ◌++◌, length}
use Rattle.ffv1_bits.specs.Limits.{payload_limit}
use Rattle.ffv1_texts.specs.Lines.{AreLines}
use Rattle.ffv1_texts.specs.Numbers.{IsNumber}
use Rattle.ffv1_scan.specs.declared.ranges.ByteRange.{ByteRange}
use Rattle.ffv1_scan.specs.declared.ranges.RangesFault.{RangesFault}
use Rattle.ffv1_scan.specs.declared.ranges.RangesFault.TheVariants as faults

-- A line that is a range: two numbers with one space between them, the second at most 2^30.
pub record IsRangeLine (line : List ℕ) (range : ByteRange) : Type 0 where
  pub place_digits : List ℕ
  pub size_digits : List ℕ
  pub parted : line ≡ place_digits ++ 32 ∷ size_digits
  pub place : IsNumber place_digits range.place
  pub size : IsNumber size_digits range.size
  pub few : range.size ≤ payload_limit

-- each line is its range
abbrev pub AreRangeLines : List (List ℕ) → List ByteRange → Type 0
AreRangeLines [] [] = Unit {0}
AreRangeLines [] (range ∷ ranges) = ⊥
AreRangeLines (line ∷ lines) [] = ⊥
AreRangeLines (line ∷ lines) (range ∷ ranges) = IsRangeLine line range × AreRangeLines lines ranges

-- The first range begins at this place or after it, and each other one at the end of the one before it or after that.
abbrev pub Rises : ℕ → List ByteRange → Type 0
Rises from [] = Unit {0}
Rises from (range ∷ ranges) = (from ≤ range.place) × Rises (range.place + range.size) ranges

-- where the last of the ranges ends; this place where there is none
abbrev pub ranges_end : ℕ → List ByteRange → ℕ
ranges_end from [] = from
ranges_end from (range ∷ ranges) = ranges_end (range.place + range.size) ranges

-- The text gives these ranges, in order and without overlap.
pub record AreRanges (text : List ℕ) (ranges : List ByteRange) : Type 0 where
  pub lines : List (List ℕ)
  pub are_lines : AreLines text lines
  pub each : AreRangeLines lines ranges
  pub rise : Rises 0 ranges

-- This line of the text, counted from 1, is the first that is no range, or begins before the end of the one before it.
pub record IsFirstWrong (text : List ℕ) (number : ℕ) : Type 0 where
  pub earlier : List (List ℕ)
  pub line : List ℕ
  pub later : List (List ℕ)
  pub are_lines : AreLines text (earlier ++ line ∷ later)
  pub ranges : List ByteRange
  pub each : AreRangeLines earlier ranges
  pub rise : Rises 0 ranges
  pub wrong : (range : ByteRange) → IsRangeLine line range → ranges_end 0 ranges ≤ range.place → ⊥
  pub counted : number ≡ length earlier + 1

-- why no ranges were read of a text
abbrev pub IsRangesFault : List ℕ → RangesFault → Type 0
IsRangesFault text (faults.Line number) = IsFirstWrong text number
IsRangesFault text faults.Memory = Unit {0}
