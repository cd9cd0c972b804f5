use Rattle.std.proofs.Common.{rules}
use Rattle.ffv1_hold.proofs.restoring.RestorationFaultFromPlanFault.from.Goals as goal

pub returns : goal.returns
returns c = search rules
