use Rattle.std.proofs.Common.{arith}
use Rattle.std.proofs.lemmas.Grind.{common_steps}
use Rattle.std.proofs.lemmas.Int.{ints}
use Rattle.ffv1_range.proofs.recording.Recording.entry.Goals as goal

pub returns : goal.returns
returns c = grind (ints, arith, common_steps)
