use Rattle.ffv1_check.proofs.CutSteps.{cut_file_is_seen}
use Rattle.ffv1_check.proofs.check.cut_file_is_seen.Goals as goal

pub returns : goal.returns
returns c = cut_file_is_seen
