use Rattle.ffv1_slice.proofs.KeyframeLaws.{any_frames_are_wider}
use Rattle.ffv1_slice.proofs.keyframes.any_frames_are_wider.Goals as goal

pub returns : goal.returns
returns c = any_frames_are_wider
