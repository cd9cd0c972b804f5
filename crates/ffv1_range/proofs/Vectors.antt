-- Outside vectors, computed.
use Rattle.std.proofs.Common.{◌≡◌, ℕ, zero, suc, Bool, true, false, List, [], ◌∷◌, map, refl, Result, Ok, Err}
use Rattle.std.specs.Prelude.{pos, negsuc, replicate, Some}
use Rattle.ffv1_range.specs.Results.{◌>>>◌ as ◌>>=◌}
use Rattle.ffv1_range.specs.Coding.{header_mode, record_mode, Coder, bit_at, slot_at, start_of}
use Rattle.ffv1_range.specs.Transitions.{standard_transitions, one_states_with, zero_states_of, default_states}
use Rattle.ffv1_range.specs.Symbols.{symbol_bits, signed_symbol_bits}
use Rattle.ffv1_range.specs.InitialStates.{context_states, initial_states, states_of}
use Rattle.ffv1_range.specs.Forms.{Form}
use Rattle.ffv1_range.specs.Reading.{symbol_form, exponent_form, low_form}
use Rattle.ffv1_range.specs.Tables.{half_of, table_entry, set_of}
use Rattle.ffv1_range.specs.TableForms.{fresh_row}
use Rattle.ffv1_range.specs.declared.coding.RangeFault.{RangeFault}
use Rattle.ffv1_range.specs.declared.coding.RangeFault.TheVariants.{Start, Short}
use Rattle.ffv1_range.proofs.Forms.{place_of}

-- n symbols
symbols : ℕ → Form (List ℕ) (List ℕ) RangeFault
symbols zero mode p = Ok ([], p)
symbols (suc n) mode p = do
  x ← symbol_form mode p
  xs ← symbols n mode x.1
  Ok (x.0 ∷ xs.0, xs.1)

-- the nine symbols of a slice header, and the bytes that are left after the bit that ends it
header : Bool → List ℕ → Result (List ℕ × List ℕ) RangeFault
header first content = do
  c ← start_of false content
  k ← (elim first as (λ _. Result (Bool × Coder) RangeFault) [ true ↦ bit_at false c 128 | false ↦ Ok (true, c) ])
  fields ← symbols 9 header_mode (place_of k.1 fresh_row)
  last ← bit_at false fields.1.coder 129
  Ok (fields.0, last.1.rest)

first_header : header true (0xFD ∷ 0xF6 ∷ 0x80 ∷ []) ≡ Ok (0 ∷ 0 ∷ 0 ∷ 0 ∷ 0 ∷ 0 ∷ 0 ∷ 0 ∷ 0 ∷ [], [])
unfolding header symbols start_of bit_at slot_at symbol_form exponent_form low_form standard_transitions one_states_with zero_states_of default_states
first_header = refl

second_header : header false (0x3F ∷ 0x2B ∷ 0x80 ∷ []) ≡ Ok (1 ∷ 0 ∷ 0 ∷ 0 ∷ 0 ∷ 0 ∷ 0 ∷ 0 ∷ 0 ∷ [], [])
unfolding header symbols start_of bit_at slot_at symbol_form exponent_form low_form standard_transitions one_states_with zero_states_of default_states
second_header = refl

short_header : header true (0xFD ∷ 0xF6 ∷ []) ≡ Err Short
unfolding header symbols start_of bit_at slot_at symbol_form exponent_form low_form standard_transitions one_states_with zero_states_of default_states
short_header = refl

starts : start_of false (0xFF ∷ 0 ∷ []) ≡ Err Start
unfolding start_of
starts = refl

nothing : (start_of true [] >>= λ c. symbol_form record_mode (place_of c fresh_row) >>= λ x. Ok x.0) ≡ Ok 1
unfolding start_of bit_at slot_at symbol_form exponent_form low_form standard_transitions one_states_with zero_states_of default_states
nothing = refl

spelled : symbol_bits 5 ≡ (0, false) ∷ (1, true) ∷ (2, true) ∷ (3, false) ∷ (23, false) ∷ (22, true) ∷ []
unfolding symbol_bits lib.Count.count_leading_zeros
spelled = refl

spelled_one : symbol_bits 1 ≡ (0, false) ∷ (1, false) ∷ []
unfolding symbol_bits lib.Count.count_leading_zeros
spelled_one = refl

spelled_negative : signed_symbol_bits (negsuc 4) ≡ (0, false) ∷ (1, true) ∷ (2, true) ∷ (3, false) ∷ (23, false) ∷ (22, true) ∷ (13, true) ∷ []
unfolding signed_symbol_bits symbol_bits lib.Count.count_leading_zeros
spelled_negative = refl

-- the tables of runs of 1, 2 and 125 entries

three_runs : List ℕ
three_runs = 1 ∷ 2 ∷ 125 ∷ []

entries : map (table_entry (half_of 1 three_runs)) (0 ∷ 1 ∷ 2 ∷ 3 ∷ 127 ∷ 128 ∷ 253 ∷ 254 ∷ 255 ∷ [])
    ≡ pos 0 ∷ pos 1 ∷ pos 1 ∷ pos 2 ∷ pos 2 ∷ negsuc 1 ∷ negsuc 1 ∷ negsuc 0 ∷ negsuc 0 ∷ []
unfolding three_runs
entries = refl

contexts : (set_of (three_runs ∷ three_runs ∷ three_runs ∷ three_runs ∷ three_runs ∷ [])).contexts ≡ 1563
unfolding three_runs
contexts = refl

-- a context whose deltas are all 72, and one with 100 after it
two_contexts : initial_states (replicate 32 72 ∷ replicate 32 100 ∷ []) ≡ replicate 32 200 ∷ replicate 32 44 ∷ []
unfolding initial_states context_states
two_contexts = refl

-- a delta of -1
lower_states : (states_of true (Some (replicate 32 (negsuc 0) ∷ []))).initial ≡ Some (replicate 32 127 ∷ [])
unfolding initial_states context_states
lower_states = refl
