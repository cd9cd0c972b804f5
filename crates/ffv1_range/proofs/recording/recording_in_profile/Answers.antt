use Rattle.ffv1_range.proofs.ProfileLaws.{recording_in_profile}
use Rattle.ffv1_range.proofs.recording.recording_in_profile.Goals as goal

pub returns : goal.returns
returns c = recording_in_profile
