use Rattle.ffv1_commands.proofs.SpliceCommandLaws.{same_copies_make_one_splice}
use Rattle.ffv1_commands.proofs.laws.same_copies_make_one_splice.Goals as goal

pub returns : goal.returns
returns c = same_copies_make_one_splice
