use Rattle.std.proofs.Common.{ap, ◌∙◌, sym, subst, true}
use Rattle.ffv1_range.specs.SliceHeader.{IsSliceHeaderOf, slice_header_read}
use Rattle.ffv1_player.proofs.Showing.{says_by, says_nothing}
use Rattle.ffv1_player.proofs.shown.says_no_keyframe.Goals as goal

pub returns-in-Ok : goal.returns-in-Ok
returns-in-Ok c =
    says_by c.args.recording.now c.args.slice.now c.eq.result c.in-Ok.header c.in-Ok._start
    (subst (λ content. IsSliceHeaderOf c.args.recording.now content true c.in-Ok.header c.in-Ok._start) c.content_of.ensures c.in-Ok.ensures.found) c.eq.ensures

pub returns-in-Err : goal.returns-in-Err
returns-in-Err c =
    says_nothing c.args.recording.now c.args.slice.now c.in-Err._fault
    (ap (λ content. slice_header_read c.args.recording.now content true) (sym c.content_of.ensures) ∙ sym c.in-Err.ensures.fault)
