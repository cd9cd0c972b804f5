use Rattle.ffv1_rice.proofs.OneRun.{no_run_when_cut}
use Rattle.ffv1_rice.proofs.run.cuts_exclude_runs.Goals as goal

pub returns : goal.returns
returns c = no_run_when_cut
