use Rattle.std.proofs.Common.{◌∙◌}
use Rattle.ffv1_range.specs.Frames.{by_frames}
use Rattle.ffv1_slice.proofs.SliceLaws.{slice_is_found, slice_run}
use Rattle.ffv1_slice.proofs.slice.read_frame_slice.Goals as goal

pub returns-clause-found : goal.returns-clause-found
returns-clause-found g c = slice_is_found (by_frames c.args.frames (g.S.Recorded.rules c.args.setup.now)) c.args.slice.now c.args.first c.tile_read.result c.tile_read.ensures

pub returns-clause-only : goal.returns-clause-only
returns-clause-only g c = λ tile h. c.tile_read.ensures ∙ slice_run (by_frames c.args.frames (g.S.Recorded.rules c.args.setup.now)) c.args.slice.now c.args.first tile h
