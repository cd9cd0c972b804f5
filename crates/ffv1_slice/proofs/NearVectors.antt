-- Copies near the frame of two slices, and one that is not.
use Rattle.std.proofs.Common.{◌≡◌, ℕ, suc, zero, ◌<◌, true, false, List, [], ◌∷◌, ◌++◌, length, Ok, get_or, refl, ap, ◌∙◌, arith, inl, inr}
use Rattle.std.specs.Prelude.{◌⊎◌, ◌==◌}
use Rattle.ffv1_bits.specs.Bits.{number_bits, bits_of}
use Rattle.ffv1_bits.specs.Parity.{polynomial_of, divided, remainder_of, AreBytes, DifferWithin32, PassesParity}
use Rattle.ffv1_bits.proofs.Burst.{burst}
use Rattle.ffv1_bits.proofs.Bytes.{bytes_by_test}
use Rattle.ffv1_range.specs.Setup.{SetupValue}
use Rattle.ffv1_range.specs.TileHeaders.{TileRules, profile_rules}
use Rattle.ffv1_range.specs.Coding.{bit_at, slot_at, start_of}
use Rattle.ffv1_range.specs.Transitions.{standard_transitions, one_states_with, zero_states_of, default_states}
use Rattle.ffv1_range.specs.HeaderForms.{symbols_onto}
use Rattle.ffv1_range.specs.Reading.{symbol_form, exponent_form, low_form}
use Rattle.ffv1_slice.specs.Slices.{IsSliceOf, IsFoundIn, IsOriginal, slice_read}
use Rattle.ffv1_slice.specs.Near.{starts_at, version_at, IsDamagedWithin32, IsNear, IsIntactIn}
use Rattle.ffv1_slice.proofs.SliceLaws.{slice_found}
use Rattle.ffv1_slice.proofs.NearLaws.{near_found}

-- the slices of a frame of two tiles side by side
abbrev pub first_slice : List ℕ
first_slice = 0xFD ∷ 0xF6 ∷ 0x80 ∷ 0 ∷ 0 ∷ 3 ∷ 0 ∷ 0x1C ∷ 0x3E ∷ 0xA0 ∷ 0x9B ∷ []

abbrev pub second_slice : List ℕ
second_slice = 0x3F ∷ 0x2B ∷ 0x80 ∷ 0 ∷ 0 ∷ 3 ∷ 0 ∷ 0x56 ∷ 0x0F ∷ 0xD7 ∷ 0x3B ∷ []

abbrev pub frame : List ℕ
frame = first_slice ++ second_slice

abbrev pub slices : List (List ℕ)
slices = first_slice ∷ second_slice ∷ []

-- its first 24 bits are flipped
abbrev damaged_slice : List ℕ
damaged_slice = 0x02 ∷ 0x09 ∷ 0x7F ∷ 0 ∷ 0 ∷ 3 ∷ 0 ∷ 0x1C ∷ 0x3E ∷ 0xA0 ∷ 0x9B ∷ []

abbrev pub damaged_frame : List ℕ
damaged_frame = damaged_slice ++ second_slice

-- its first and last of 32 bits are flipped, from bit 56 on
abbrev other_slice : List ℕ
other_slice = 0x3F ∷ 0x2B ∷ 0x80 ∷ 0 ∷ 0 ∷ 3 ∷ 0 ∷ 0xD6 ∷ 0x0F ∷ 0xD7 ∷ 0x3A ∷ []

abbrev pub other_frame : List ℕ
other_frame = first_slice ++ other_slice

other_damaged : IsDamagedWithin32 second_slice other_slice
unfolding bits_of number_bits
other_damaged = record { at = 56; differ = record { same_length = refl; front = refl; back = refl }; size = refl }

damaged : IsDamagedWithin32 first_slice damaged_slice
unfolding bits_of number_bits
damaged = record { at = 0; differ = record { same_length = refl; front = refl; back = refl }; size = refl }

-- the first slice with error_status 1 passes, and differs from it within 33 bits, but not within 32
abbrev marked_slice : List ℕ
marked_slice = 0xFD ∷ 0xF6 ∷ 0x80 ∷ 0 ∷ 0 ∷ 3 ∷ 1 ∷ 0x18 ∷ 0xFF ∷ 0xBD ∷ 0x2C ∷ []

first_passes : PassesParity first_slice
unfolding number_bits bits_of polynomial_of divided remainder_of
first_passes = (omega arith, refl)

marked_passes : PassesParity marked_slice
unfolding number_bits bits_of polynomial_of divided remainder_of
marked_passes = (omega arith, refl)

not_within_32 : (at : ℕ) → DifferWithin32 first_slice marked_slice at → ⊥
not_within_32 at differ =
    let same : first_slice ≡ marked_slice = burst first_slice marked_slice at (bytes_by_test first_slice refl)
    (bytes_by_test marked_slice refl) differ first_passes marked_passes in
    let status : get_or first_slice 6 0 ≡ get_or marked_slice 6 0 = ap (λ (s : List ℕ). get_or s 6 0) same in
    absurd (omega arith)

-- ---- a setup of two tiles

abbrev pub setup : SetupValue
setup = record {
  micro = 4;
  has_chroma = false;
  shift_h = 0;
  shift_v = 0;
  across = 2;
  down = 1;
  sets = record { halves = []; contexts = 1 } ∷ [];
  ec = 1;
  intra = 1;
  width = 2;
  height = 1;
}

abbrev pub rules : TileRules
rules = profile_rules setup

first_read : slice_read rules first_slice true ≡ Ok 0
unfolding slice_read number_bits bits_of polynomial_of divided remainder_of start_of bit_at slot_at symbol_form exponent_form low_form symbols_onto standard_transitions one_states_with zero_states_of default_states
first_read = refl

second_read : slice_read rules second_slice false ≡ Ok 1
unfolding slice_read number_bits bits_of polynomial_of divided remainder_of start_of bit_at slot_at symbol_form exponent_form low_form symbols_onto standard_transitions one_states_with zero_states_of default_states
second_read = refl

pub is_original : IsOriginal rules frame slices
is_original = record { count = refl; joined = refl; short = omega arith; each = each }
  where
    each : (tile : ℕ) (d : List ℕ) → tile < 2 → IsSliceOf rules (get_or slices tile d) (tile == 0) tile
    each zero d lt = slice_found rules first_slice true 0 first_read
    each (suc zero) d lt = slice_found rules second_slice false 1 second_read
    each (suc (suc tile)) d lt = absurd (omega arith)

-- a copy of the frame's length, from each of its two slices
near_by : (copy : List ℕ) → AreBytes copy → length copy ≡ length frame
    → (version_at slices copy 0 ≡ first_slice) ⊎ IsDamagedWithin32 first_slice (version_at slices copy 0)
    → (version_at slices copy 1 ≡ second_slice) ⊎ IsDamagedWithin32 second_slice (version_at slices copy 1) → IsNear rules frame slices copy
near_by copy bytes size first second =
    record { is_original = is_original; original_bytes = bytes_by_test frame refl; copy_bytes = bytes; same_length = size; each = each }
  where
    each : (tile : ℕ) (d : List ℕ) → tile < 2 → (version_at slices copy tile ≡ get_or slices tile d)
        ⊎ IsDamagedWithin32 (get_or slices tile d) (version_at slices copy tile)
    each zero d lt = first
    each (suc zero) d lt = second
    each (suc (suc tile)) d lt = absurd (omega arith)

pub near : IsNear rules frame slices damaged_frame
unfolding starts_at
near = near_by damaged_frame (bytes_by_test damaged_frame refl) refl (inr damaged) (inl refl)

pub other_near : IsNear rules frame slices other_frame
unfolding starts_at
other_near = near_by other_frame (bytes_by_test other_frame refl) refl (inl refl) (inr other_damaged)

-- each copy has one slice intact
pub second_intact : IsIntactIn slices damaged_frame 1 second_slice
unfolding starts_at
second_intact = refl

pub first_intact : IsIntactIn slices other_frame 0 first_slice
unfolding starts_at
first_intact = refl

-- the second is found, and the first is not
second_found : IsFoundIn rules damaged_frame 1 second_slice
unfolding starts_at
second_found = (near_found rules frame slices damaged_frame near 1 second_slice).1 (omega arith, refl, refl)

first_not_found : (slice : List ℕ) → IsFoundIn rules damaged_frame 0 slice → ⊥
unfolding starts_at
first_not_found slice found =
    let parts = (near_found rules frame slices damaged_frame near 0 slice).0 found in
    let same : damaged_slice ≡ first_slice = parts.2 ∙ parts.1 in
    let byte : get_or damaged_slice 0 0 ≡ get_or first_slice 0 0 = ap (λ (s : List ℕ). get_or s 0 0) same in
    absurd (omega arith)
