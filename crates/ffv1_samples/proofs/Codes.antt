-- Planes of Golomb-Rice codes after states that values have left, and what a reader of them has read.
use Rattle.std.proofs.Common.{◌≡◌, ℕ, zero, suc, ◌<◌, List, length, replicate, Bool, refl, sym, ap, ◌∙◌, subst, arith, ℤ}
use Rattle.std.specs.Prelude.{Option, Some, None, slice_index}
use Rattle.std.proofs.lemmas.List.{length-replicate, get_or-replicate}
use Rattle.ffv1_range.specs.Setup.{RecordingValue, set_contexts}
use Rattle.ffv1_rice.specs.States.{ContextState, start_state}
use Rattle.ffv1_rice.specs.declared.code.CodeFault.{CodeFault}
use Rattle.ffv1_plane.specs.Picture.{no_values}
use Rattle.ffv1_plane.specs.Progress.{AreStatesAfter}
use Rattle.ffv1_plane.specs.RangeSlices.{slice_shape, slice_group, coded_depth_of}
use Rattle.ffv1_plane.specs.RiceSlices.{values_after_planes, AreGroupsAfter, ArePlanesSpelled, AreCodesStuck}
use Rattle.ffv1_plane.specs.RiceReading.{group_codes, HaveSliceCodes, AreCodesDecoded}
use Rattle.ffv1_plane.specs.declared.planes.PlaneSize.{PlaneSize}
use Rattle.ffv1_plane.specs.declared.rice_planes.RiceLines.{RiceLines}
use Rattle.ffv1_plane.proofs.RangeSlices.{group_small}
use Rattle.ffv1_samples.specs.States.{states_of_group, SliceStatesValue, range_states, rice_states, count_of_planes, HaveGroupContexts, HaveValues, FitSliceBefore, codes_before}
use Rattle.ffv1_samples.specs.Coded.{AreCodesCoded}
use Rattle.ffv1_samples.specs.Inner.Coded.{codes_groups}

groups_after : (n : ℕ) (values : ℕ → ℕ → List ℤ) (a b : ℕ → List ContextState) → ((g : ℕ) → g < 3 → a g ≡ b g) → AreGroupsAfter n values a → AreGroupsAfter n values b
groups_after n values a b same h g less = subst (λ (s : List ContextState). AreStatesAfter n (values g) s) (same g less) (h g less)

-- ---- the states before

codes_long : (r : RecordingValue) (sets : List ℕ) (before : Option SliceStatesValue) → FitSliceBefore r sets before → (p : ℕ) → p < count_of_planes r
    → length (codes_before r sets before (slice_group r.setup.has_chroma p)) ≡ set_contexts r.setup (slice_index sets (slice_group r.setup.has_chroma p))
codes_long r sets (Some (rice_states groups)) fit p less = fit.1 p less
codes_long r sets (Some (range_states groups)) fit p less = length-replicate _ _
codes_long r sets None fit p less = length-replicate _ _

-- start states are left by no values
fresh : (n k : ℕ) → AreStatesAfter n no_values (replicate k start_state)
fresh n k context less =
    let long : length (replicate k start_state) ≡ k = length-replicate k start_state in
    get_or-replicate k context start_state start_state (omega (arith, less, long))

-- values that have left them
pub values_before : (r : RecordingValue) (sets : List ℕ) (before : Option SliceStatesValue) → FitSliceBefore r sets before → HaveValues r (codes_before r sets before)
values_before r sets (Some (rice_states groups)) fit = fit.2
values_before r sets (Some (range_states groups)) fit =
    (λ group. no_values, λ group small. fresh (coded_depth_of r) (set_contexts r.setup (slice_index sets group)))
values_before r sets None fit = (λ group. no_values, λ group small. fresh (coded_depth_of r) (set_contexts r.setup (slice_index sets group)))

pub reader_codes : (r : RecordingValue) (sets tables : List ℕ) (sizes : List PlaneSize) (before : Option SliceStatesValue) (reader : RiceLines)
    → sets ≡ tables → length sizes ≡ count_of_planes r → FitSliceBefore r tables before → ((g : ℕ) → g < 3 → group_codes reader g ≡ codes_before r tables before g)
    → HaveSliceCodes (slice_shape r sets sizes) reader
reader_codes r sets tables sizes before reader same count fit begins p less =
    ap length (begins (slice_group r.setup.has_chroma p) (group_small r.setup.has_chroma p))
    ∙ codes_long r tables before fit p (omega (arith, less, count))
    ∙ ap (λ l. set_contexts r.setup (slice_index l (slice_group r.setup.has_chroma p))) (sym same)

-- ---- what was read

groups_are : (reader : RiceLines) (g : ℕ) → group_codes reader g ≡ states_of_group (codes_groups reader) g
groups_are reader zero = refl
groups_are reader (suc zero) = refl
groups_are reader (suc (suc other)) = refl

module _ (r : RecordingValue) (sets tables : List ℕ) (sizes : List PlaneSize) (bits : List Bool) (before : Option SliceStatesValue) (reader : RiceLines)
    (same : sets ≡ tables) (is : reader.bits.left ≡ bits) (begins : (g : ℕ) → g < 3 → group_codes reader g ≡ codes_before r tables before g) where
  pub codes_stuck : (code : CodeFault) (plane y x : ℕ)
      → ((values : ℕ → ℕ → List ℤ) → AreGroupsAfter (coded_depth_of r) values (group_codes reader) → AreCodesStuck (slice_shape r sets sizes) values reader.bits.left code plane y x)
      → (values : ℕ → ℕ → List ℤ) → AreGroupsAfter (coded_depth_of r) values (codes_before r tables before)
      → AreCodesStuck (slice_shape r tables sizes) values bits code plane y x
  codes_stuck code plane y x h values left =
      subst (λ b. AreCodesStuck (slice_shape r tables sizes) values b code plane y x) is
      (subst (λ l. AreCodesStuck (slice_shape r l sizes) values reader.bits.left code plane y x) same
      (h values (groups_after (coded_depth_of r) values (codes_before r tables before) (group_codes reader) (λ g less. sym (begins g less)) left)))

  module _ (after : RiceLines) (planes : List (List ℕ)) (h : AreCodesDecoded (slice_shape r sets sizes) reader after planes) where
    pub codes_coded : AreCodesCoded r tables sizes bits (codes_before r tables before) planes after.bits.left (codes_groups after)
    codes_coded = record {
      sizes_are = h.sizes;
      spelled = λ values left.
          subst (λ b. ArePlanesSpelled (slice_shape r tables sizes) values b planes after.bits.left) is
          (subst (λ l. ArePlanesSpelled (slice_shape r l sizes) values reader.bits.left planes after.bits.left) same
          (h.spelled values (groups_after (coded_depth_of r) values (codes_before r tables before) (group_codes reader) (λ g less. sym (begins g less)) left)));
      left = λ values left.
          subst (λ l. AreGroupsAfter (coded_depth_of r) (values_after_planes (slice_shape r l sizes) planes values) (states_of_group (codes_groups after))) same
          (groups_after (coded_depth_of r) (values_after_planes (slice_shape r sets sizes) planes values) (group_codes after) (states_of_group (codes_groups after))
          (λ g less. groups_are after g)
          (h.left values (groups_after (coded_depth_of r) values (codes_before r tables before) (group_codes reader) (λ g less. sym (begins g less)) left)));
    }

    pub codes_fit : length sizes ≡ count_of_planes r → HaveGroupContexts r tables (codes_groups after)
    codes_fit count p less =
        sym (ap length (groups_are after (slice_group r.setup.has_chroma p)))
        ∙ h.states p (omega (arith, less, count))
        ∙ ap (λ l. set_contexts r.setup (slice_index l (slice_group r.setup.has_chroma p))) same

    pub codes_values : FitSliceBefore r tables before → HaveValues r (states_of_group (codes_groups after))
    codes_values fit =
        let values = values_before r tables before fit in
        (values_after_planes (slice_shape r tables sizes) planes values.0, codes_coded.left values.0 values.1)
