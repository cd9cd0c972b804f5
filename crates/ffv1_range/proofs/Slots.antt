-- One bit at a state, and one at a slot of a row.
use Rattle.std.proofs.Common.{◌≡◌, ℕ, ◌+◌, ◌<◌, length, length-append, arith, Bool, List, Result, Ok, Err, Option, Some, None, refl, sym, ap, ◌∙◌, subst, inl, inr}
use Rattle.std.specs.Prelude.{slice_index, slice_set, replicate, OnErr}
use Rattle.std.proofs.lemmas.Bool.{cases_eq}
use Rattle.std.proofs.lemmas.Grind.{get_or-set_at}
use Rattle.std.proofs.lemmas.List.{length-replicate, length-set, get_or-set_other}
use Rattle.ffv1_range.specs.Results.{◌>>>◌}
use Rattle.ffv1_range.specs.Coding.{Mode, Coder, Place, bit_at, slot_at}
use Rattle.ffv1_range.specs.Decoder.{Reader, reader_at, at_of, reads_bit, ReadsBit, AreStates, KeepsStates}
use Rattle.ffv1_range.specs.Forms.{from_place, ReadsForm, same_fault, slot_form}
use Rattle.ffv1_range.specs.Views.{coder_of}
use Rattle.ffv1_range.specs.declared.coding.Interval.{Interval}
use Rattle.ffv1_range.specs.declared.coding.RangeFault.{RangeFault}
use Rattle.ffv1_range.proofs.Forms.{place_of}
use Rattle.ffv1_range.specs.Transitions.{standard_transitions, state_following, IsBitState}
use Rattle.ffv1_range.proofs.States.{bit_state-stays}
use Rattle.ffv1_range.specs.declared.transitions.Transitions.{Transitions}

slot_outcome : (transitions : Transitions) (slot : ℕ) (row : List ℕ) → Result (Bool × Coder) RangeFault → Result (Bool × Place) RangeFault
slot_outcome transitions slot row (Ok x) = Ok (
  x.0,
  record {
    coder = x.1;
    states = slice_set row slot (state_following transitions
        (slice_index row slot) x.0);
  },
)
slot_outcome transitions slot row (Err e) = Err e

-- a bit at a slot is a bit at its state
slot_bit : (at : Result Coder RangeFault) (mode : Mode) (slot : ℕ) (row : List ℕ)
    → from_place same_fault at (λ c. slot_at mode (place_of c row) slot) ≡ slot_outcome mode.transitions slot row
    (reads_bit (record { mode = mode; total = 0; at = at }) (slice_index row slot))
unfolding slot_at slot_outcome
slot_bit (Ok c) mode slot row = elim (bit_at mode.closed c (slice_index row slot)) as
    (λ r. (r >>> λ x. Ok (
      x.0,
      record {
        coder = x.1;
        states = slice_set row slot (state_following mode.transitions
            (slice_index row slot) x.0);
      },
    )) ≡ slot_outcome mode.transitions slot row r)
    [ Ok x ↦ refl | Err e ↦ refl ]
slot_bit (Err e) mode slot row = refl

pub slot_read : (r s : Reader) (row : List ℕ) (slot after : ℕ) (result : Result Bool RangeFault)
    → ReadsBit r (slice_index row slot) result s after → ReadsForm same_fault (slot_form slot) r row result s (slice_set row slot after)
unfolding slot_outcome
slot_read r s row slot after (Ok bit) h = (
  h.0,
  slot_bit r.at r.mode slot row ∙ ap (slot_outcome r.mode.transitions slot row) h.1 ∙ ap (λ z. Ok (bit, place_of h.0 (slice_set row slot z))) (sym h.3),
  h.2,
)
slot_read r s row slot after (Err e) h = slot_bit r.at r.mode slot row ∙ ap (slot_outcome r.mode.transitions slot row) h

-- ---- states that stay in their range

-- one state of a row is replaced by one in the range
states_set : (row : List ℕ) (slot after : ℕ) → AreStates row → IsBitState after → AreStates (slice_set row slot after)
states_set row slot after are is i less = elim (cases_eq i slot) [
  | inl same ↦ subst IsBitState (sym (get_or-set_at row slot i after 0 same (omega (arith, less, same, length-set row slot after)))) is
  | inr other ↦ subst IsBitState (sym (get_or-set_other row slot i after 0 other)) (are i (omega (arith, less, length-set row slot after)))
]

bit_keeps : (r s : Reader) (state after : ℕ) (result : Result Bool RangeFault) → ReadsBit r state result s after → OnErr result (after ≡ state)
    → r.mode.transitions ≡ standard_transitions → IsBitState state → IsBitState after
bit_keeps r s state after (Ok bit) read unchanged standard is =
    subst IsBitState (sym (read.3 ∙ ap (λ t. state_following t state bit) standard)) (bit_state-stays state bit is)
bit_keeps r s state after (Err fault) read unchanged standard is = subst IsBitState (sym unchanged) is

pub slot_keeps : (r s : Reader) (row : List ℕ) (slot after : ℕ) (result : Result Bool RangeFault) → ReadsBit r (slice_index row slot) result s after
    → OnErr result (after ≡ slice_index row slot) → slot < length row → KeepsStates r row (slice_set row slot after)
slot_keeps r s row slot after result read unchanged there standard are =
    states_set row slot after are (bit_keeps r s (slice_index row slot) after result read unchanged standard (are slot there))

-- the same after what another decoder read that goes on from the first
pub keeps-trans : (r s : Reader) (x y z : List ℕ) → s ≡ reader_at r s.at → KeepsStates r x y → KeepsStates s y z → KeepsStates r x z
keeps-trans r s x y z same first second standard are = second (ap (λ (t : Reader). t.mode.transitions) same ∙ standard) (first standard are)

-- what is still to come of an interval: the rest of its content, and the zero bytes after it
pub bytes_to_come : (fault : Option RangeFault) (interval : Interval) (c : Coder) → at_of fault (coder_of interval) ≡ Ok c
    → length c.rest ≡ length interval.rest.now + interval.zeros
bytes_to_come None interval c h =
    let same : coder_of interval ≡ c = cc in
    let size = ap (λ (z : Coder). length z.rest) same in
    omega (arith, size, length-append interval.rest.now (replicate interval.zeros 0), length-replicate interval.zeros (let z : ℕ = 0 in z))
bytes_to_come (Some f) interval c h = absurd cc
