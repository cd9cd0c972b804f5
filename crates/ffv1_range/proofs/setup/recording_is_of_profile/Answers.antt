use Rattle.ffv1_range.proofs.SetupLaws.{recording_is_of_profile}
use Rattle.ffv1_range.proofs.setup.recording_is_of_profile.Goals as goal

pub returns : goal.returns
returns c = recording_is_of_profile
