-- Planes that are range-coded from states of each group, and what a reader of them has read.
use Rattle.std.proofs.Common.{◌≡◌, ℕ, zero, suc, ◌<◌, ◌≤◌, List, length, Ok, refl, sym, ap, ◌∙◌, subst, arith}
use Rattle.std.specs.Prelude.{Option, Some, None, IfSome, slice_index}
use Rattle.std.proofs.lemmas.List.{length-replicate}
use Rattle.ffv1_bits.specs.Limits.{payload_limit}
use Rattle.ffv1_range.specs.Coding.{Mode, Coder}
use Rattle.ffv1_range.specs.Decoder.{Reader, reader_at}
use Rattle.ffv1_range.specs.Rows.{Rows}
use Rattle.ffv1_range.specs.Setup.{RecordingValue, IsInVersion3, set_contexts, initial_of}
use Rattle.ffv1_range.specs.declared.coding.RangeFault.{RangeFault}
use Rattle.ffv1_range.specs.declared.head.SliceStart.TheVariants.{Samples}
use Rattle.ffv1_range.proofs.Spelling.{same_ok}
use Rattle.ffv1_plane.specs.RangeLines.{lines_bits}
use Rattle.ffv1_plane.specs.RangeSlices.{SliceShape, slice_shape, slice_group, slice_plane, coded_lines, HasGroupRows, HasGroups, place_at, ArePlanesCoded, AreLinesStuck}
use Rattle.ffv1_plane.specs.RangeReading.{group_states, states_from, start_states, HaveSliceStates, IsSliceRead}
use Rattle.ffv1_plane.specs.declared.planes.PlaneSize.{PlaneSize}
use Rattle.ffv1_plane.specs.declared.planes.RangeLines.{RangeLines}
use Rattle.ffv1_plane.specs.declared.range_rows.DifferenceFault.{DifferenceFault}
use Rattle.ffv1_plane.proofs.OneRange.{rows_with, has_rows}
use Rattle.ffv1_plane.proofs.RangeSlices.{group_small}
use Rattle.ffv1_samples.specs.States.{states_of_group, SliceStatesValue, range_states, rice_states, count_of_planes, HaveGroupContexts, FitSliceBefore, rows_before}
use Rattle.ffv1_samples.specs.Coded.{AreRangeCoded}
use Rattle.ffv1_samples.specs.Inner.Coded.{lines_groups, IsReaderWithin}
use Rattle.ffv1_samples.specs.Inner.Headers.{IsStartWithin}
use Rattle.ffv1_samples.specs.declared.reading.SliceReader.TheVariants.{Range}
use Rattle.ffv1_range.proofs.Shrinks.{rows_shrink}

-- ---- states of each group

groups_as : (rows : Rows) (a b : ℕ → List (List ℕ)) → ((g : ℕ) → g < 3 → a g ≡ b g) → HasGroups rows a → HasGroups rows b
groups_as rows a b same has g less = subst (λ (s : List (List ℕ)). HasGroupRows g rows s) (same g less) (has g less)

pub coded_from : (mode : Mode) (shape : SliceShape) (start end : Coder) (planes : List (List ℕ)) (b before a after : ℕ → List (List ℕ))
    → ((g : ℕ) → g < 3 → b g ≡ before g) → ((g : ℕ) → g < 3 → a g ≡ after g)
    → ArePlanesCoded mode shape start b planes end a → ArePlanesCoded mode shape start before planes end after
coded_from mode shape start end planes b before a after same left h = record {
  sizes = h.sizes;
  run = λ rows has.
      let run = h.run rows (groups_as rows before b (λ g less. sym (same g less)) has) in
      record { next = run.next; run = run.run; states = groups_as run.next a after left run.states };
}

pub stuck_from : (mode : Mode) (shape : SliceShape) (start : Coder) (b before : ℕ → List (List ℕ)) (fault : DifferenceFault) (plane y x : ℕ)
    → ((g : ℕ) → g < 3 → b g ≡ before g) → AreLinesStuck mode shape start b fault plane y x → AreLinesStuck mode shape start before fault plane y x
stuck_from mode shape start b before fault plane y x same h = record {
  planes = h.planes;
  small = h.small;
  done = h.done;
  later = h.later;
  order = h.order;
  inside = h.inside;
  stuck = λ rows has. h.stuck rows (groups_as rows before b (λ g less. sym (same g less)) has);
}

-- ---- the states before

start_long : (r : RecordingValue) (set : ℕ) → IsInVersion3 r → length (start_states r set) ≡ set_contexts r.setup set
start_long r set version = either (initial_of r set) (version.initial set)
  where
    either : (o : Option (List (List ℕ))) → IfSome o (λ states. length states ≡ set_contexts r.setup set)
        → length (states_from (set_contexts r.setup set) o) ≡ set_contexts r.setup set
    either (Some states) h = h
    either None h = length-replicate _ _

pub rows_long : (r : RecordingValue) (sets : List ℕ) (before : Option SliceStatesValue) → IsInVersion3 r → FitSliceBefore r sets before → (p : ℕ) → p < count_of_planes r
    → length (rows_before r sets before (slice_group r.setup.has_chroma p)) ≡ set_contexts r.setup (slice_index sets (slice_group r.setup.has_chroma p))
rows_long r sets (Some (range_states groups)) version fit p less = fit.1 p less
rows_long r sets (Some (rice_states groups)) version fit p less = start_long r (slice_index sets (slice_group r.setup.has_chroma p)) version
rows_long r sets None version fit p less = start_long r (slice_index sets (slice_group r.setup.has_chroma p)) version

-- a reader with the states before has those of each plane's group
pub reader_states : (r : RecordingValue) (sets tables : List ℕ) (sizes : List PlaneSize) (before : Option SliceStatesValue) (reader : RangeLines) → IsInVersion3 r
    → sets ≡ tables → length sizes ≡ count_of_planes r → FitSliceBefore r tables before → ((g : ℕ) → g < 3 → group_states reader g ≡ rows_before r tables before g)
    → HaveSliceStates (slice_shape r sets sizes) reader
reader_states r sets tables sizes before reader version same count fit begins p less =
    let g = slice_group r.setup.has_chroma p in
    ap length (begins (slice_group r.setup.has_chroma p) (group_small r.setup.has_chroma p))
    ∙ rows_long r tables before version fit p (omega (arith, less, count))
    ∙ ap (λ l. set_contexts r.setup (slice_index l (slice_group r.setup.has_chroma p))) (sym same)

-- ---- what was read

groups_are : (reader : RangeLines) (g : ℕ) → group_states reader g ≡ states_of_group (lines_groups reader) g
groups_are reader zero = refl
groups_are reader (suc zero) = refl
groups_are reader (suc (suc other)) = refl

module _ (r : RecordingValue) (sets tables : List ℕ) (sizes : List PlaneSize) (decoder : Reader) (before : Option SliceStatesValue) (reader : RangeLines)
    (same : sets ≡ tables) (is : reader.decoder ≡ decoder) (begins : (g : ℕ) → g < 3 → group_states reader g ≡ rows_before r tables before g) where
  pub range_stuck : (start : Coder) (fault : DifferenceFault) (plane y x : ℕ) → reader.decoder.at ≡ Ok start
      → AreLinesStuck reader.decoder.mode (slice_shape r sets sizes) start (group_states reader) fault plane y x
      → AreLinesStuck decoder.mode (slice_shape r tables sizes) start (rows_before r tables before) fault plane y x
  range_stuck start fault plane y x from h =
      subst (λ (d : Reader). AreLinesStuck d.mode (slice_shape r tables sizes) start (rows_before r tables before) fault plane y x) is
      (subst (λ l. AreLinesStuck reader.decoder.mode (slice_shape r l sizes) start (rows_before r tables before) fault plane y x) same
      (stuck_from reader.decoder.mode (slice_shape r sets sizes) start (group_states reader) (rows_before r tables before) fault plane y x begins h))

  module _ (after : RangeLines) (planes : List (List ℕ)) (h : IsSliceRead (slice_shape r sets sizes) reader after planes) where
    pub range_coded : AreRangeCoded r tables sizes decoder (rows_before r tables before) planes h.end (lines_groups after)
    range_coded = record {
      start = h.start;
      from = subst (λ (d : Reader). d.at ≡ Ok h.start) is h.from;
      coded =
          subst (λ (d : Reader). ArePlanesCoded d.mode (slice_shape r tables sizes) h.start (rows_before r tables before) planes h.end (states_of_group (lines_groups after))) is
          (subst (λ l. ArePlanesCoded reader.decoder.mode (slice_shape r l sizes) h.start (rows_before r tables before) planes h.end (states_of_group (lines_groups after))) same
          (coded_from reader.decoder.mode (slice_shape r sets sizes) h.start h.end planes (group_states reader) (rows_before r tables before) (group_states after)
          (states_of_group (lines_groups after)) begins (λ g less. groups_are after g) h.coded));
    }

    pub after_is : after.decoder ≡ reader_at decoder (Ok h.end)
    after_is = subst (λ (d : Reader). after.decoder ≡ reader_at d (Ok h.end)) is h.to

    pub after_fits : length sizes ≡ count_of_planes r → HaveGroupContexts r tables (lines_groups after)
    after_fits count p less =
        sym (ap length (groups_are after (slice_group r.setup.has_chroma p)))
        ∙ h.states p (omega (arith, less, count))
        ∙ ap (λ l. set_contexts r.setup (slice_index l (slice_group r.setup.has_chroma p))) same

    pub after_within : (content : List ℕ) → IsStartWithin r content (Samples decoder) → length content ≤ payload_limit → IsReaderWithin (Range after)
    after_within content start short =
        let run = h.coded.run (rows_with (group_states reader)) (has_rows (group_states reader)) in
        let shrinks = rows_shrink reader.decoder.mode (place_at h.start (rows_with (group_states reader))) (place_at h.end run.next)
        (lines_bits (slice_plane (slice_shape r sets sizes) planes) (coded_lines (slice_shape r sets sizes))) run.run in
        let at : decoder.at ≡ Ok h.start = subst (λ (d : Reader). d.at ≡ Ok h.start) is h.from in (
          ap (λ (d : Reader). d.mode.closed) after_is ∙ start.2,
          λ c here.
              let end : h.end ≡ c = same_ok {E = RangeFault} h.end c (sym (ap (λ (d : Reader). d.at) after_is) ∙ here) in
              omega (arith, ap (λ (z : Coder). length z.rest) end, shrinks, start.3 h.start at, short),
        )
