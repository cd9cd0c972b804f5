use Rattle.ffv1_commands.proofs.SpliceCommandLaws.{splice_gives_woven_copies, splice_gives_near_woven_copies}
use Rattle.ffv1_commands.proofs.laws.splice_weaves_the_original.Goals as goal

pub returns-clause-original : goal.returns-clause-original
returns-clause-original c = splice_gives_woven_copies

pub returns-clause-near : goal.returns-clause-near
returns-clause-near c = splice_gives_near_woven_copies
