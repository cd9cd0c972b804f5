use Rattle.std.proofs.Common.{arith}
use Rattle.std.proofs.lemmas.Grind.{common_steps}
use Rattle.ffv1_range.proofs.recording.Recording.contexts.Goals as goal

pub returns : goal.returns
returns c = grind (arith, common_steps)
