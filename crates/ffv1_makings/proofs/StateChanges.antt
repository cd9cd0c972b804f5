-- Transitions whose states become the same after a bit 1 are one.
use Rattle.std.proofs.Common.{◌≡◌, ℕ, suc, zero, ◌<◌, List, length, get_or, sym, ap, ◌∙◌, subst, arith}
use Rattle.std.specs.Prelude.{slice_index}
use Rattle.std.proofs.lemmas.List.{ext_get_or}
use Rattle.std.proofs.lemmas.List.FromFn.{get_or-map-range_with_len, length-map-range_with_len}
use Rattle.ffv1_range.specs.Transitions.{one_state_with, one_states_with, zero_states_of, transitions_with, delta_bytes}
use Rattle.ffv1_range.specs.Setup.{RecordingValue}
use Rattle.ffv1_makings.specs.declared.spec.RecordingSpec.{RecordingSpec}
use Rattle.ffv1_makings.specs.Asked.{asked_deltas, asked_transitions, HasAskedCoding}
use Rattle.ffv1_makings.specs.Inner.ReadBack.{IsRecorded, ShowsFields, HaveSameOnes}

state-0-stays : (deltas : List ℕ) → slice_index (one_states_with deltas) 0 ≡ 0
unfolding one_states_with
state-0-stays deltas = get_or-map-range_with_len (one_state_with deltas) 0 256 0 0 0 (omega arith) (omega arith)

length-one_states : (deltas : List ℕ) → length (one_states_with deltas) ≡ 256
unfolding one_states_with
length-one_states deltas = length-map-range_with_len (one_state_with deltas) 0 256

same_by_ones : (deltas others : List ℕ) → HaveSameOnes (transitions_with deltas) (transitions_with others) → transitions_with deltas ≡ transitions_with others
same_by_ones deltas others h =
    let same : one_states_with deltas ≡ one_states_with others =
    ext_get_or 0 (one_states_with deltas) (one_states_with others) (length-one_states deltas ∙ sym (length-one_states others)) each in
    ap (λ ones. record { zero = zero_states_of ones; one = ones }) same
  where
    each : (k : ℕ) → k < length (one_states_with deltas) → get_or (one_states_with deltas) k 0 ≡ get_or (one_states_with others) k 0
    each zero lt = state-0-stays deltas ∙ sym (state-0-stays others)
    each (suc k) lt = h (suc k) (omega arith) (omega (arith, length-one_states deltas))

pub asked_coding : (r : RecordingValue) (spec : RecordingSpec) → IsRecorded r → ShowsFields r spec
    → HaveSameOnes r.transitions (asked_transitions spec) → HasAskedCoding r spec
asked_coding r spec h fields ones =
    let read = delta_bytes h.is.fields.coder_type h.is.fields.state_transition_delta in
    let is : r.transitions ≡ transitions_with read = ap (λ v. v.transitions) h.is.is in
    let same = same_by_ones read (delta_bytes spec.coder (asked_deltas spec.deltas.items)) (subst (λ t. HaveSameOnes t (asked_transitions spec)) is ones) in
    record {
      micro = fields.micro;
      coder = fields.coder;
      transitions = is ∙ same;
      ec = fields.ec;
      intra = fields.intra;
      across = fields.across;
      down = fields.down;
    }
