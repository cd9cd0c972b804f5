use Rattle.ffv1_commands.proofs.WholeFrames.{true_is_whole}
use Rattle.ffv1_commands.proofs.laws.splice_reports_whole_frames.Goals as goal

pub returns : goal.returns
returns c = true_is_whole
