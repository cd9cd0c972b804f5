use Rattle.std.proofs.Common.{◌≡◌, ap, ◌∙◌, subst}
use Rattle.std.specs.Prelude.{◌==◌}
use Rattle.ffv1_range.specs.Frames.{by_frames}
use Rattle.ffv1_slice.specs.Chain.{IsFramed}
use Rattle.ffv1_slice.specs.Slices.{slice_read}
use Rattle.ffv1_slice.proofs.SliceLaws.{slice_run, slice_read-whole, slice_read-fails}
use Rattle.ffv1_slice.proofs.slice.frame_slice_of.Given.{Over}
use Rattle.ffv1_slice.proofs.slice.frame_slice_of.Goals as goal

-- the bytes and the start that were read are the link's
reads_link : (g : Over) (c : goal.After-read_frame_slice g) → c.read_frame_slice.result ≡ slice_read (by_frames c.args.frames (g.S.Recorded.rules c.args.setup.now)) c.args.link.now.bytes (c.args.link.now.start == 0)
reads_link g c =
    c.read_frame_slice.ensures.read ∙ ap (λ z. slice_read (by_frames c.args.frames (g.S.Recorded.rules c.args.setup.now)) z (c.start.result == 0)) c.bytes.ensures.value
    ∙ ap (λ z. slice_read (by_frames c.args.frames (g.S.Recorded.rules c.args.setup.now)) c.args.link.now.bytes (z == 0)) c.start.ensures

pub returns-clause-only : goal.returns-clause-only
returns-clause-only g c = λ tile h. reads_link g c ∙ slice_run (by_frames c.args.frames (g.S.Recorded.rules c.args.setup.now)) c.args.link.now.bytes (c.args.link.now.start == 0) tile h

pub returns-clause-parity : goal.returns-clause-parity
returns-clause-parity g c = λ fails. reads_link g c ∙ slice_read-fails (by_frames c.args.frames (g.S.Recorded.rules c.args.setup.now)) c.args.link.now.bytes (c.args.link.now.start == 0) fails

pub returns-clause-head : goal.returns-clause-head
returns-clause-head g c =
    λ passes. reads_link g c
    ∙ slice_read-whole (by_frames c.args.frames (g.S.Recorded.rules c.args.setup.now)) c.args.link.now.bytes (c.args.link.now.start == 0) (subst IsFramed c.bytes.ensures.value c.bytes.ensures.framed) passes
