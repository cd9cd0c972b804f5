use Rattle.ffv1_stretches.proofs.FileLaws.{original_file_is_mended}
use Rattle.ffv1_stretches.proofs.laws.original_file_is_mended.Goals as goal

pub returns : goal.returns
returns c = original_file_is_mended
