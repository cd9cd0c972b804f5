use Rattle.matroska.proofs.TrackSteps.{not_wrong}
use Rattle.matroska.proofs.record.is_record_wrong.Goals as goal

pub returns-in-None : goal.returns-in-None
returns-in-None c = not_wrong c.args.track.now c.in-None.ensures
