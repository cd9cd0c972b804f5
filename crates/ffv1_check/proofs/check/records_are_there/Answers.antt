use Rattle.ffv1_check.proofs.RecordPlaces.{records_are_there}
use Rattle.ffv1_check.proofs.check.records_are_there.Goals as goal

pub returns : goal.returns
returns c = records_are_there
