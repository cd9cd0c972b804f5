use Rattle.ffv1_range.proofs.Refusals.{one_recording_refusal}
use Rattle.ffv1_range.proofs.recording.one_recording_refusal.Goals as goal

pub returns : goal.returns
returns c = one_recording_refusal
