use Rattle.ffv1_rice.proofs.Faults.{no_code_at_fault}
use Rattle.ffv1_rice.proofs.code.faults_exclude_codes.Goals as goal

pub returns : goal.returns
returns c = no_code_at_fault
