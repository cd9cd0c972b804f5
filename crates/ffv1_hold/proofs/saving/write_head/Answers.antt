use Rattle.ffv1_hold.proofs.Common.{common_steps, arith}
use Rattle.ffv1_hold.proofs.WrittenParts.{head_spelled}
use Rattle.ffv1_hold.proofs.saving.write_head.Goals as goal

pub returns : goal.returns
returns g c = grind (arith, common_steps, head_spelled)
