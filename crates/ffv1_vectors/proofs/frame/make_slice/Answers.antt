use Rattle.ffv1_vectors.proofs.FrameSteps.{made_slice}
use Rattle.ffv1_vectors.proofs.frame.make_slice.Goals as goal

pub returns : goal.returns
returns c =
    made_slice c.args.setup.now c.args.tile c.args.spec.now c.deref-2.result.now c.in_ok-slice.slice.items c.in_ok-reads_back.field-0 c.deref-2.ensures.value
    c.if-not-branch.false
    c.in_ok-slice.ensures.spelled.has_status c.in_ok-reads_back.ensures.is_slice c.in_ok-reads_back.ensures.head c.in_ok-reads_back.ensures.picture
