use Rattle.ffv1_check.proofs.FileSpans.{checked_bytes_pass}
use Rattle.ffv1_check.proofs.check.checked_bytes_pass.Goals as goal

pub returns : goal.returns
returns c = checked_bytes_pass
