-- The adaptive states that a slice begins with, and that it leaves to the slice of its number in the frame after (RFC 9043, sections
-- 3.8.1.3 and 3.8.2.4).
use Rattle.std.specs.Prelude.{◌≡◌, ◌≢◌, ℕ, zero, suc, ◌+◌, ◌<◌, ◌||◌, List, length, slice_index, Option, Some, None, ℤ, if◌then◌else◌}
use Rattle.ffv1_range.specs.Setup.{RecordingValue, set_contexts}
use Rattle.ffv1_rice.specs.States.{ContextState}
use Rattle.ffv1_plane.specs.RangeReading.{start_states}
use Rattle.ffv1_plane.specs.RangeSlices.{slice_group, coded_depth_of}
use Rattle.ffv1_plane.specs.RiceSlices.{AreGroupsAfter}
use Rattle.ffv1_plane.specs.RiceReading.{first_codes}
use Rattle.ffv1_samples.specs.declared.states.SliceStates.{SliceStates}
use Rattle.ffv1_samples.specs.declared.states.SliceStates.TheVariants as slice_states

-- The states of each group of planes: of the first plane, of the second and third, and of alpha.
pub record GroupsOf (A : Type 0) : Type 0 where
  pub luma : List A
  pub chroma : List A
  pub alpha : List A

abbrev pub states_of_group : {A : Type 0} → GroupsOf A → ℕ → List A
states_of_group groups zero = groups.luma
states_of_group groups (suc zero) = groups.chroma
states_of_group groups (suc (suc other)) = groups.alpha

-- Range-coded planes have a row of 32 states for each context, others the four numbers of one.
pub data SliceStatesValue : Type 0 where
  range_states : GroupsOf (List ℕ) → SliceStatesValue
  rice_states : GroupsOf ContextState → SliceStatesValue

abbrev pub slice_states_value : SliceStates → SliceStatesValue
slice_states_value (slice_states.Range states) =
    range_states (record { luma = states.luma.items; chroma = states.chroma.items; alpha = states.alpha.items })
slice_states_value (slice_states.Rice states) =
    rice_states (record { luma = states.luma.items; chroma = states.chroma.items; alpha = states.alpha.items })

abbrev pub states_before : Option SliceStates → Option SliceStatesValue
states_before None = None
states_before (Some states) = Some (slice_states_value states)

-- the planes of a picture: three of RGB, and of Y Cb Cr, else one; and that of alpha
abbrev pub count_of_planes : RecordingValue → ℕ
count_of_planes r = (if r.is_rgb || r.setup.has_chroma then 3 else 1) + (if r.has_alpha then 1 else 0)

-- The group of each plane has states for each of its contexts.
abbrev pub HaveGroupContexts : {A : Type 0} → RecordingValue → List ℕ → GroupsOf A → Type 0
HaveGroupContexts r sets groups =
    (p : ℕ) → p < count_of_planes r
    → length (states_of_group groups (slice_group r.setup.has_chroma p)) ≡ set_contexts r.setup (slice_index sets (slice_group r.setup.has_chroma p))

-- Some values of the recording's coded depth have left these states.
abbrev pub HaveValues : RecordingValue → (ℕ → List ContextState) → Type 0
HaveValues r states = (values : ℕ → ℕ → List ℤ) × AreGroupsAfter (coded_depth_of r) values states

-- The states are of the recording's coder, with the contexts of the table sets of the three groups.
abbrev pub FitSlice : RecordingValue → List ℕ → SliceStatesValue → Type 0
FitSlice r sets (range_states groups) = (r.coder ≢ 0) × HaveGroupContexts r sets groups
FitSlice r sets (rice_states groups) = (r.coder ≡ 0) × HaveGroupContexts r sets groups × HaveValues r (states_of_group groups)

abbrev pub FitSliceBefore : RecordingValue → List ℕ → Option SliceStatesValue → Type 0
FitSliceBefore r sets None = Unit {0}
FitSliceBefore r sets (Some states) = FitSlice r sets states

-- The states of each plane's group are the same.
abbrev pub AreSameGroups : {A : Type 0} → RecordingValue → GroupsOf A → GroupsOf A → Type 0
AreSameGroups r a b = (p : ℕ) → p < count_of_planes r → states_of_group a (slice_group r.setup.has_chroma p) ≡ states_of_group b (slice_group r.setup.has_chroma p)

abbrev pub AreSameStates : RecordingValue → SliceStatesValue → SliceStatesValue → Type 0
AreSameStates r (range_states a) (range_states b) = AreSameGroups r a b
AreSameStates r (rice_states a) (rice_states b) = AreSameGroups r a b
AreSameStates r a b = ⊥

-- The states that a slice of Golomb-Rice codes begins with: those before it, and in a keyframe the start states.
abbrev pub codes_before : RecordingValue → List ℕ → Option SliceStatesValue → ℕ → List ContextState
codes_before r sets (Some (rice_states groups)) group = states_of_group groups group
codes_before r sets (Some (range_states groups)) group = first_codes r (slice_index sets group)
codes_before r sets None group = first_codes r (slice_index sets group)

-- The rows of states that a range-coded slice begins with: those before it, and in a keyframe the initial states of each group's table set.
abbrev pub rows_before : RecordingValue → List ℕ → Option SliceStatesValue → ℕ → List (List ℕ)
rows_before r sets (Some (range_states groups)) group = states_of_group groups group
rows_before r sets (Some (rice_states groups)) group = start_states r (slice_index sets group)
rows_before r sets None group = start_states r (slice_index sets group)
