use Rattle.ffv1_stretches.proofs.FileLaws.{fronts_are_enough}
use Rattle.ffv1_stretches.proofs.laws.fronts_are_enough.Goals as goal

pub returns : goal.returns
returns c = fronts_are_enough
