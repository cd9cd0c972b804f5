-- Range-coded samples (RFC 9043, sections 3.3, 3.8 and 3.8.1.2): each difference is a signed symbol, sample after sample of a row, at the
-- states of the context's absolute value. Nothing here reads a bit but `difference_form`, which says what is refused.
use Rattle.std.specs.Prelude.{ℕ, ◌+◌, ◌-◌, ◌*◌, ◌^◌, Bool, ◌&&◌, List, map, get_or, ℤ, pos, ◌+ℤ◌, ◌-ℤ◌, neg_ℤ, nat_abs, nat_lt, int_lt, int_le, if◌then◌else◌}
use Rattle.std.specs.Int.{int_max, int_min, int_rem_euclid}
use Rattle.ffv1_range.specs.Forms.{Form, ◌>>=◌, giving, accepted, lifted}
use Rattle.ffv1_range.specs.Reading.{signed_form_within}
use Rattle.ffv1_range.specs.Rows.{RowBits}
use Rattle.ffv1_range.specs.Symbols.{signed_symbol_bits}
use Rattle.ffv1_range.specs.declared.coding.RangeFault.{RangeFault}
use Rattle.ffv1_range.specs.declared.coding.RangeFault.TheVariants as range_faults
use Rattle.ffv1_plane.specs.Samples.{SamplesAbout, Plane, prediction_of, neighbours_at, context_at, difference_of}
use Rattle.ffv1_plane.specs.Spelling.{columns_before}
use Rattle.ffv1_plane.specs.declared.range_rows.DifferenceFault.{DifferenceFault}
use Rattle.ffv1_plane.specs.declared.range_rows.DifferenceFault.TheVariants as difference_faults

-- ---- the prediction

-- a sample of 16 bits as a signed number of 16 bits
abbrev pub signed_16 : ℕ → ℤ
signed_16 sample = if nat_lt sample 32768 then pos sample else pos sample -ℤ pos 65536

abbrev pub signed_median : ℤ → ℤ → ℤ → ℤ
signed_median a b c = int_max (int_min a b) (int_min (int_max a b) c)

-- The prediction of gray and Y Cb Cr of 16 bits: the samples about it are signed numbers (section 3.3, the exception). It is given modulo
-- 2^16, as differences are.
unfoldable pub signed_prediction_of : SamplesAbout → ℕ
signed_prediction_of n =
    nat_abs (int_rem_euclid (signed_median (signed_16 n.left) (signed_16 n.top) (signed_16 n.left +ℤ signed_16 n.top -ℤ signed_16 n.top_left)) (pos 65536))

-- ---- a plane as it is range-coded

-- A plane, the group of planes whose states it shares, and whether its predictions are of signed numbers.
pub record RangePlane : Type 0 where
  pub plane : Plane
  pub group : ℕ
  pub is_signed : Bool

abbrev pub range_prediction_at : RangePlane → ℕ → ℕ
range_prediction_at r s =
    if r.is_signed then signed_prediction_of (neighbours_at r.plane.width r.plane.samples s)
    else prediction_of (neighbours_at r.plane.width r.plane.samples s)

-- the difference of sample s, which are counted in scan order
abbrev pub range_difference_at : RangePlane → ℕ → ℤ
range_difference_at r s = difference_of r.plane.coding.depth (context_at r.plane s) (range_prediction_at r s) (get_or r.plane.samples s 0)

-- the row of states of a context in a group, of which there are three
abbrev pub state_row : ℕ → ℕ → ℕ
state_row group context = 3 * context + group

-- the bits of sample s, at their row of states
unfoldable pub sample_bits : RangePlane → ℕ → RowBits
sample_bits r s = (state_row r.group (nat_abs (context_at r.plane s)), signed_symbol_bits (range_difference_at r s))

-- the bits of the first x samples of row y
abbrev pub columns_bits : RangePlane → ℕ → ℕ → List RowBits
columns_bits r y x = map (λ column. sample_bits r (y * r.plane.width + column)) (columns_before x)

-- the bits of a whole row
abbrev pub row_bits : RangePlane → ℕ → List RowBits
row_bits r y = columns_bits r y r.plane.width

-- ---- what is refused

-- a difference is that of two samples of n bits
abbrev pub is_difference : ℕ → ℤ → Bool
is_difference n z = int_le (neg_ℤ (pos (2 ^ (n - 1)))) z && int_lt z (pos (2 ^ (n - 1)))

abbrev pub fault_of_difference : RangeFault → DifferenceFault
fault_of_difference range_faults.SymbolTooLong = difference_faults.TooLarge
fault_of_difference range_faults.Short = difference_faults.Short
fault_of_difference range_faults.Start = difference_faults.Short

-- What reading a difference of n bits gives at a row of states: its exponent stays under n.
abbrev pub difference_form : ℕ → Form (List ℕ) ℤ DifferenceFault
difference_form n = do
  difference ← lifted fault_of_difference (signed_form_within n)
  fits ← accepted (is_difference n difference) difference_faults.TooLarge
  giving difference
