use Rattle.std.proofs.Common.{sym}
use Rattle.ffv1_mend.proofs.PartSteps.{written_there}
use Rattle.ffv1_mend.proofs.improved.has_at.Goals as goal

pub returns : goal.returns
returns c same = written_there c.args.bytes.now c.args.start c.args.patch.now (sym (c.is_same.ensures.0 same))
