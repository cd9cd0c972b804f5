use Rattle.std.proofs.Common.{◌≡◌, List, sym, ap, subst, ◌∙◌, map, get_or}
use Rattle.std.specs.Option.{option_copied}
use Rattle.ffv1_plane.specs.declared.planes.PlaneSize.{PlaneSize}
use Rattle.ffv1_samples.specs.States.{states_before}
use Rattle.ffv1_samples.specs.Sizes.{slice_rect, slice_sizes}
use Rattle.ffv1_samples.specs.Coded.{AreCoded}
use Rattle.ffv1_samples.specs.Inner.Coded.{IsCodedFault}
use Rattle.ffv1_samples.specs.Inner.Sizes.{AreSliceSizes}
use Rattle.ffv1_samples.proofs.Headers.{header_within, start_within}
use Rattle.ffv1_samples.proofs.PlaneSizes.{slice_sizes_fit}
use Rattle.ffv1_samples.proofs.CodedPlanes.{coded_sizes, of_recording}
use Rattle.ffv1_samples.proofs.OnePicture.{no_header}
use Rattle.ffv1_samples.proofs.Decoding.{result_ok, result_err, result_found, refused_has_no_picture}
use Rattle.ffv1_samples.proofs.slice.decode_slice.Goals as goal

pub sizes_of-requires : goal.sizes_of-requires
sizes_of-requires c =
    header_within c.args.recording.now c.args.content.now c.args.first c.in_ok-header.header c.in_ok-header.start c.keeps_version_3.ensures c.in_ok-header.ensures.found

pub read_coded-requires-clause-header : goal.read_coded-requires-clause-header
read_coded-requires-clause-header c =
    header_within c.args.recording.now c.args.content.now c.args.first c.in_ok-header.header c.in_ok-header.start c.keeps_version_3.ensures c.in_ok-header.ensures.found

pub read_coded-requires-clause-sizes : goal.read_coded-requires-clause-sizes
read_coded-requires-clause-sizes c =
    let r = c.args.recording.now in
    let header = c.in_ok-header.header in
    let sizes : c.deref.result.now ≡ slice_sizes c.args.recording.now c.in_ok-header.header = c.deref.ensures.value ∙ c.in_ok-sizes.ensures in
    subst (AreSliceSizes r) (sym sizes)
    (slice_sizes_fit r header c.keeps_version_3.ensures
    (header_within r c.args.content.now c.args.first header c.in_ok-header.start c.keeps_version_3.ensures c.in_ok-header.ensures.found))

pub read_coded-requires-clause-start : goal.read_coded-requires-clause-start
read_coded-requires-clause-start c =
    start_within c.args.recording.now c.args.content.now c.args.first c.in_ok-header.header c.in_ok-header.start c.in_ok-header.ensures.found

pub finished-requires-clause-planes : goal.finished-requires-clause-planes
finished-requires-clause-planes c =
    let r = c.args.recording.now in
    let header = c.in_ok-header.header in
    let before = states_before (option_copied c.args.before) in
    let sizes : c.deref.result.now ≡ slice_sizes c.args.recording.now c.in_ok-header.header = c.deref.ensures.value ∙ c.in_ok-sizes.ensures in
    let h = c.in-Ok.ensures.ok in
    let coded = map (λ plane. plane.items) c.in-Ok.slice.planes.items in
    let fit = slice_sizes_fit r header c.keeps_version_3.ensures
    (header_within r c.args.content.now c.args.first header c.in_ok-header.start c.keeps_version_3.ensures c.in_ok-header.ensures.found) in
    of_recording r c.deref.result.now coded (subst (AreSliceSizes r) (sym sizes) fit)
    (coded_sizes r header.tables c.deref.result.now c.args.content.now c.in_ok-header.start before coded h.end h.are_coded)

pub returns-in_err-header-clause-found : goal.returns-in_err-header-clause-found
returns-in_err-header-clause-found c = λ picture k.
    absurd (no_header c.args.recording.now c.args.content.now c.args.first picture.header k.start c.in_err-header.field-0.0 (sym c.in_err-header.ensures.fault) k.is_header)

pub returns-in-Ok-clause-ok : goal.returns-in-Ok-clause-ok
returns-in-Ok-clause-ok c =
    let r = c.args.recording.now in
    let content = c.args.content.now in
    let header = c.in_ok-header.header in
    let before = states_before (option_copied c.args.before) in
    let sizes : c.deref.result.now ≡ slice_sizes c.args.recording.now c.in_ok-header.header = c.deref.ensures.value ∙ c.in_ok-sizes.ensures in
    let h = c.in-Ok.ensures.ok in
    let coded = map (λ plane. plane.items) c.in-Ok.slice.planes.items in
    let are_coded = subst (λ s. AreCoded r header.tables s content c.in_ok-header.start before coded h.end) sizes h.are_coded in
    result_ok r content c.args.first before c.keeps_version_3.ensures header c.in_ok-header.start c.in_ok-header.ensures.found
    coded h.end c.in-Ok.slice.after are_coded h.reader h.fit c.finished.result c.finished.ensures.ok

pub returns-in-Ok-clause-err : goal.returns-in-Ok-clause-err
returns-in-Ok-clause-err c =
    let r = c.args.recording.now in
    let content = c.args.content.now in
    let header = c.in_ok-header.header in
    let before = states_before (option_copied c.args.before) in
    let sizes : c.deref.result.now ≡ slice_sizes c.args.recording.now c.in_ok-header.header = c.deref.ensures.value ∙ c.in_ok-sizes.ensures in
    let h = c.in-Ok.ensures.ok in
    let coded = map (λ plane. plane.items) c.in-Ok.slice.planes.items in
    let are_coded = subst (λ s. AreCoded r header.tables s content c.in_ok-header.start before coded h.end) sizes h.are_coded in
    let width : c.index.result.now.width ≡ (slice_rect c.args.recording.now c.in_ok-header.header).w =
    ap (λ (size : PlaneSize). size.width) (c.index.ensures ∙ ap (λ (l : List PlaneSize). get_or l 0 c.index.result.now) c.in_ok-sizes.ensures) in
    result_err r content c.args.first before c.keeps_version_3.ensures header c.in_ok-header.start c.in_ok-header.ensures.found
    coded h.end c.in-Ok.slice.after are_coded h.reader h.fit c.index.result.now.width width c.finished.result c.finished.ensures.err

pub returns-in-Ok-clause-found : goal.returns-in-Ok-clause-found
returns-in-Ok-clause-found c =
    let r = c.args.recording.now in
    let content = c.args.content.now in
    let header = c.in_ok-header.header in
    let before = states_before (option_copied c.args.before) in
    let sizes : c.deref.result.now ≡ slice_sizes c.args.recording.now c.in_ok-header.header = c.deref.ensures.value ∙ c.in_ok-sizes.ensures in
    let h = c.in-Ok.ensures.ok in
    let coded = map (λ plane. plane.items) c.in-Ok.slice.planes.items in
    let are_coded = subst (λ s. AreCoded r header.tables s content c.in_ok-header.start before coded h.end) sizes h.are_coded in
    result_found r content c.args.first before c.keeps_version_3.ensures header c.in_ok-header.start c.in_ok-header.ensures.found
    coded h.end c.in-Ok.slice.after are_coded h.reader h.fit c.index.result.now.width c.requires.states c.finished.result c.finished.ensures.ok c.finished.ensures.err

pub returns-clause-found : goal.returns-clause-found
returns-clause-found c = λ picture k.
    let r = c.args.recording.now in
    let content = c.args.content.now in
    let header = c.in_ok-header.header in
    let before = states_before (option_copied c.args.before) in
    let sizes : c.deref.result.now ≡ slice_sizes c.args.recording.now c.in_ok-header.header = c.deref.ensures.value ∙ c.in_ok-sizes.ensures in
    c.refused.ensures.memory
    (refused_has_no_picture r content c.args.first before c.keeps_version_3.ensures header c.in_ok-header.start c.in_ok-header.ensures.found
    c.in-Err.fault (c.requires.states header c.in_ok-header.start c.in_ok-header.ensures.found)
    (subst (λ s. IsCodedFault r header.tables s content c.in_ok-header.start before c.in-Err.fault) sizes c.in-Err.ensures.err) picture k)
