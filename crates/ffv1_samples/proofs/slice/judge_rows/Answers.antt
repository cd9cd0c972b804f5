use Rattle.std.proofs.Common.{◌≡◌, List, true, sym, ap, subst, ◌∙◌, map, get_or}
use Rattle.std.specs.Option.{option_copied}
use Rattle.std.proofs.lemmas.Result.{err_from_is_err_and}
use Rattle.ffv1_plane.specs.FirstRows.{rows_to}
use Rattle.ffv1_plane.specs.declared.planes.PlaneSize.{PlaneSize}
use Rattle.ffv1_samples.specs.States.{states_before}
use Rattle.ffv1_samples.specs.Sizes.{slice_rect, slice_sizes}
use Rattle.ffv1_samples.specs.Pictures.{ArePicturePlanes}
use Rattle.ffv1_samples.specs.Coded.{AreCoded}
use Rattle.ffv1_samples.specs.Inner.Faults.{IsRowsFault}
use Rattle.ffv1_samples.specs.Inner.Coded.{IsCodedFault}
use Rattle.ffv1_samples.specs.Inner.Planes.{AreOfRecording, IsJudgedFault}
use Rattle.ffv1_samples.specs.Inner.Sizes.{AreSliceSizes}
use Rattle.ffv1_samples.proofs.Headers.{header_within, start_within}
use Rattle.ffv1_samples.proofs.CodedPlanes.{coded_sizes, of_recording}
use Rattle.ffv1_samples.proofs.Decoding.{rows_fit, judged_rows, rows_colors, rows_refused}
use Rattle.ffv1_samples.proofs.slice.judge_rows.Goals as goal

pub rows_of-requires : goal.rows_of-requires
rows_of-requires c =
    header_within c.args.recording.now c.args.content.now c.args.first c.in_ok-header.header c.in_ok-header.start c.keeps_version_3.ensures c.in_ok-header.ensures.found

pub read_coded-requires-clause-header : goal.read_coded-requires-clause-header
read_coded-requires-clause-header c =
    header_within c.args.recording.now c.args.content.now c.args.first c.in_ok-header.header c.in_ok-header.start c.keeps_version_3.ensures c.in_ok-header.ensures.found

pub read_coded-requires-clause-sizes : goal.read_coded-requires-clause-sizes
read_coded-requires-clause-sizes c =
    let r = c.args.recording.now in
    let header = c.in_ok-header.header in
    let rgb : c.args.recording.now.is_rgb ≡ true = c.requires.rgb in
    let sizes : c.deref.result.now ≡ rows_to c.args.rows (slice_sizes c.args.recording.now c.in_ok-header.header) = c.deref.ensures.value ∙ c.in_ok-sizes.ensures in
    subst (AreSliceSizes r) (sym sizes)
    (rows_fit r c.args.content.now c.args.first (states_before (option_copied c.args.before)) c.keeps_version_3.ensures header c.in_ok-header.start
    c.in_ok-header.ensures.found c.args.rows (c.requires.few header c.in_ok-header.start c.in_ok-header.ensures.found) rgb)

pub read_coded-requires-clause-start : goal.read_coded-requires-clause-start
read_coded-requires-clause-start c =
    start_within c.args.recording.now c.args.content.now c.args.first c.in_ok-header.header c.in_ok-header.start c.in_ok-header.ensures.found

pub judged_planes-requires-clause-planes : goal.judged_planes-requires-clause-planes
judged_planes-requires-clause-planes c =
    let r = c.args.recording.now in
    let header = c.in_ok-header.header in
    let before = states_before (option_copied c.args.before) in
    let rgb : c.args.recording.now.is_rgb ≡ true = c.requires.rgb in
    let sizes : c.deref.result.now ≡ rows_to c.args.rows (slice_sizes c.args.recording.now c.in_ok-header.header) = c.deref.ensures.value ∙ c.in_ok-sizes.ensures in
    let h = c.in-Ok.ensures.ok in
    let coded = map (λ plane. plane.items) c.in-Ok.slice.planes.items in
    let fit = rows_fit r c.args.content.now c.args.first before c.keeps_version_3.ensures header c.in_ok-header.start
    c.in_ok-header.ensures.found c.args.rows (c.requires.few header c.in_ok-header.start c.in_ok-header.ensures.found) rgb in
    subst (AreOfRecording r) (sym (ap (map (λ plane. plane.items)) c.deref-in-Ok.ensures.value))
    (of_recording r c.deref.result.now coded (subst (AreSliceSizes r) (sym sizes) fit)
    (coded_sizes r header.tables c.deref.result.now c.args.content.now c.in_ok-header.start before coded h.end h.are_coded))

pub returns-in_err-judged_planes-in-Ok-clause-err : goal.returns-in_err-judged_planes-in-Ok-clause-err
returns-in_err-judged_planes-in-Ok-clause-err c =
    let r = c.args.recording.now in
    let header = c.in_ok-header.header in
    let before = states_before (option_copied c.args.before) in
    let rgb : c.args.recording.now.is_rgb ≡ true = c.requires.rgb in
    let sizes : c.deref.result.now ≡ rows_to c.args.rows (slice_sizes c.args.recording.now c.in_ok-header.header) = c.deref.ensures.value ∙ c.in_ok-sizes.ensures in
    let h = c.in-Ok.ensures.ok in
    let coded = map (λ plane. plane.items) c.in-Ok.slice.planes.items in
    let width : c.index.result.now.width ≡ (slice_rect c.args.recording.now c.in_ok-header.header).w =
    ap (λ (size : PlaneSize). size.width) (c.index.ensures ∙ ap (λ (l : List PlaneSize). get_or l 0 c.index.result.now) c.in_ok-sizes.ensures) in
    let p = err_from_is_err_and c.from_residual-in_err-judged_planes-in-Ok.result c.from_residual-in_err-judged_planes-in-Ok.ensures.1 in
    let given = subst (λ l. IsJudgedFault r l c.index.result.now.width c.in_err-judged_planes-in-Ok.field-0.0) (ap (map (λ plane. plane.items)) c.deref-in-Ok.ensures.value)
    c.in_err-judged_planes-in-Ok.ensures.err in
    rw (p.1, p.2)
    (judged_rows r c.args.content.now c.args.first before c.keeps_version_3.ensures header c.in_ok-header.start
    c.in_ok-header.ensures.found c.args.rows (c.requires.few header c.in_ok-header.start c.in_ok-header.ensures.found) rgb coded h.end
    c.index.result.now.width _ (subst (λ s. AreCoded r header.tables s c.args.content.now c.in_ok-header.start before coded h.end) sizes h.are_coded) width given)

pub returns-in-Ok-clause-ok : goal.returns-in-Ok-clause-ok
returns-in-Ok-clause-ok c =
    let r = c.args.recording.now in
    let header = c.in_ok-header.header in
    let before = states_before (option_copied c.args.before) in
    let sizes : c.deref.result.now ≡ rows_to c.args.rows (slice_sizes c.args.recording.now c.in_ok-header.header) = c.deref.ensures.value ∙ c.in_ok-sizes.ensures in
    let h = c.in-Ok.ensures.ok in
    let coded = map (λ plane. plane.items) c.in-Ok.slice.planes.items in
    let planes = map (λ plane. plane.items) c.in_ok-judged_planes-in-Ok.field-0.items in
    let given = subst (λ l. ArePicturePlanes r l planes) (ap (map (λ plane. plane.items)) c.deref-in-Ok.ensures.value) c.in_ok-judged_planes-in-Ok.ensures.ok in
    rows_colors r c.args.content.now c.args.first before c.keeps_version_3.ensures header c.in_ok-header.start
    c.in_ok-header.ensures.found c.args.rows (c.requires.few header c.in_ok-header.start c.in_ok-header.ensures.found) c.requires.rgb coded planes h.end
    (subst (λ s. AreCoded r header.tables s c.args.content.now c.in_ok-header.start before coded h.end) sizes h.are_coded) given

pub returns-clause-err : goal.returns-clause-err
returns-clause-err c =
    let r = c.args.recording.now in
    let header = c.in_ok-header.header in
    let before = states_before (option_copied c.args.before) in
    let rgb : c.args.recording.now.is_rgb ≡ true = c.requires.rgb in
    let sizes : c.deref.result.now ≡ rows_to c.args.rows (slice_sizes c.args.recording.now c.in_ok-header.header) = c.deref.ensures.value ∙ c.in_ok-sizes.ensures in
    subst (IsRowsFault r c.args.content.now c.args.first before c.args.rows) (sym c.from.ensures)
    (rows_refused r c.args.content.now c.args.first before c.keeps_version_3.ensures header c.in_ok-header.start
    c.in_ok-header.ensures.found c.args.rows (c.requires.few header c.in_ok-header.start c.in_ok-header.ensures.found) rgb c.in-Err.fault
    (subst (λ s. IsCodedFault r header.tables s c.args.content.now c.in_ok-header.start before c.in-Err.fault) sizes c.in-Err.ensures.err))
