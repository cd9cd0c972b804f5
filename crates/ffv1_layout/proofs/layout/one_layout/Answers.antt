use Rattle.ffv1_layout.proofs.OneLayout.{one_layout, no_fault}
use Rattle.ffv1_layout.proofs.OneFault.{one_fault}
use Rattle.ffv1_layout.proofs.layout.one_layout.Goals as goal

pub returns : goal.returns
returns c = record { one = one_layout; no_fault = λ r payload slices headers fault laid. no_fault r payload slices headers laid fault; one_fault = one_fault }
