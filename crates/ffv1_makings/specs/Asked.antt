-- What a recording is asked to be (RFC 9043, sections 4.2 and 4.3).
use Rattle.std.specs.Prelude.{◌≡◌, ◌==◌, ℕ, ℤ, pos, true, List, Some, None, length, map, slice_index_or, if◌then◌else◌}
use Rattle.std.specs.List.{All, range_with_len}
use Rattle.ffv1_range.specs.InitialStates.{StatesValue, keeps_states, uncoded_states}
use Rattle.ffv1_range.specs.Setup.{RecordingValue}
use Rattle.ffv1_range.specs.Tables.{IsTableSet, set_of}
use Rattle.ffv1_range.specs.Transitions.{delta_bytes, transitions_with}
use Rattle.ffv1_range.specs.declared.transitions.Transitions.{Transitions}
use Rattle.ffv1_makings.specs.declared.spec.RecordingSpec.{RecordingSpec}
use Rattle.ffv1_makings.specs.declared.spec.SetSpec.{SetSpec}

-- bits_per_raw_sample 0 says 8.
abbrev pub asked_depth : RecordingSpec → ℕ
asked_depth spec = if spec.raw_depth == 0 then 8 else spec.raw_depth

-- state_transition_delta of the states 1 to 255. Those that are left out are 0.
abbrev pub asked_deltas : List ℤ → List ℤ
asked_deltas deltas = map (λ place. slice_index_or deltas place (pos 0)) (range_with_len 0 255)

-- how states change (section 3.8.1.6)
abbrev pub asked_transitions : RecordingSpec → Transitions
asked_transitions spec = transitions_with (delta_bytes spec.coder (asked_deltas spec.deltas.items))

-- the runs of a set's five tables (section 4.9)
abbrev pub asked_tables : SetSpec → List (List ℕ)
asked_tables set = map (λ runs. runs.items) set.tables.items

-- states_coded, and the initial states of a set's contexts (section 4.2.15), which are of use only with range coding
abbrev pub asked_states : ℕ → List (List ℕ) → StatesValue
asked_states coder states =
    if length states == 0 then uncoded_states
    else record { coded = true; initial = if keeps_states coder then Some states else None }

-- How the samples are coded.
pub record HasAskedCoding (r : RecordingValue) (spec : RecordingSpec) : Type 0 where
  pub micro : r.setup.micro ≡ spec.micro
  pub coder : r.coder ≡ spec.coder
  pub transitions : r.transitions ≡ asked_transitions spec
  pub ec : r.setup.ec ≡ spec.ec
  pub intra : r.setup.intra ≡ spec.intra
  pub across : r.setup.across ≡ spec.across
  pub down : r.setup.down ≡ spec.down

-- The planes. The shifts of gray count as 0.
pub record HasAskedPlanes (r : RecordingValue) (spec : RecordingSpec) : Type 0 where
  pub is_rgb : r.is_rgb ≡ spec.is_rgb
  pub depth : r.depth ≡ asked_depth spec
  pub has_chroma : r.setup.has_chroma ≡ spec.has_chroma
  pub shift_h : r.setup.shift_h ≡ (if spec.has_chroma then spec.shift_h else 0)
  pub shift_v : r.setup.shift_v ≡ (if spec.has_chroma then spec.shift_v else 0)
  pub has_alpha : r.has_alpha ≡ spec.has_alpha

-- The sets of quantization tables, each of which is one, with their initial states.
pub record HasAskedSets (r : RecordingValue) (spec : RecordingSpec) : Type 0 where
  pub are_sets : All (λ set. IsTableSet (asked_tables set)) spec.sets.items
  pub sets : r.setup.sets ≡ map (λ set. set_of (asked_tables set)) spec.sets.items
  pub states : r.states ≡ map (λ set. asked_states spec.coder set.states.items) spec.sets.items

-- The recording is coded as asked for, and has the planes and the sets asked for.
pub record IsAskedRecording (r : RecordingValue) (spec : RecordingSpec) : Type 0 where
  pub coding : HasAskedCoding r spec
  pub planes : HasAskedPlanes r spec
  pub sets : HasAskedSets r spec
