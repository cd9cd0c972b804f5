use Rattle.ffv1_weave.proofs.Common.{rules}
use Rattle.ffv1_weave.proofs.OneBit.{next_reduced, next_low}
use Rattle.ffv1_weave.proofs.inversions.next_power.Goals as goal

pub returns-then-power-eq1 : goal.returns-then-power-eq1
returns-then-power-eq1 c = next_reduced c.args.power (search rules) c.if-power-eq1.true

pub returns-else-power-eq1 : goal.returns-else-power-eq1
returns-else-power-eq1 c = next_low c.args.power (search rules) c.if-power-eq1.false
