use Rattle.matroska.proofs.TrackSteps.{record_is_one}
use Rattle.matroska.proofs.record.record_is_one.Goals as goal

pub returns : goal.returns
returns c = record_is_one
