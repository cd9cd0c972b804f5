use Rattle.ffv1_rice.proofs.Faults.{one_fault}
use Rattle.ffv1_rice.proofs.code.faults_are_one.Goals as goal

pub returns : goal.returns
returns c = one_fault
