use Rattle.ffv1_range.proofs.SetupLaws.{recording_is_one}
use Rattle.ffv1_range.proofs.recording.recording_is_one.Goals as goal

pub returns : goal.returns
returns c = recording_is_one
