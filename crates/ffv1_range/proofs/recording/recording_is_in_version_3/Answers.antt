use Rattle.ffv1_range.proofs.SetupLaws.{recording_is_in_version_3}
use Rattle.ffv1_range.proofs.recording.recording_is_in_version_3.Goals as goal

pub returns : goal.returns
returns c = recording_is_in_version_3
