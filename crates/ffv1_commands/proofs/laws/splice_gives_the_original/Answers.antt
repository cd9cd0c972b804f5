use Rattle.ffv1_commands.proofs.SpliceCommandLaws.{splice_gives_the_original, splice_gives_near_copies}
use Rattle.ffv1_commands.proofs.laws.splice_gives_the_original.Goals as goal

pub returns-clause-original : goal.returns-clause-original
returns-clause-original c = splice_gives_the_original

pub returns-clause-near : goal.returns-clause-near
returns-clause-near c = splice_gives_near_copies
