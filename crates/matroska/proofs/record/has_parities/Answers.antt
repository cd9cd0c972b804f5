use Rattle.matroska.proofs.TrackSteps.{no_record}
use Rattle.matroska.proofs.record.has_parities.Goals as goal

pub returns-in_default : goal.returns-in_default
returns-in_default c = no_record c.args.track.now c.in_default.ensures
