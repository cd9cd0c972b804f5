use Rattle.ffv1_rice.proofs.OneRun.{one_run}
use Rattle.ffv1_rice.proofs.run.runs_are_one.Goals as goal

pub returns : goal.returns
returns c = one_run
