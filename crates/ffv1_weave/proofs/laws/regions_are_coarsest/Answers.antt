use Rattle.ffv1_weave.proofs.Coarsest.{regions_are_coarsest}
use Rattle.ffv1_weave.proofs.laws.regions_are_coarsest.Goals as goal

pub returns : goal.returns
returns c = regions_are_coarsest
