use Rattle.std.proofs.Common.{rules}
use Rattle.ffv1_range.proofs.recording.checked_content.Goals as goal

pub returns : goal.returns
returns c = search rules
