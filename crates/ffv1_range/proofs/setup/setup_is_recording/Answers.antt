use Rattle.ffv1_range.proofs.SetupLaws.{setup_is_recording}
use Rattle.ffv1_range.proofs.setup.setup_is_recording.Goals as goal

pub returns : goal.returns
returns c = setup_is_recording
