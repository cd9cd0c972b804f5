use Rattle.ffv1_player.proofs.PlayedSlices.{keyframe_is_shown}
use Rattle.ffv1_player.proofs.shown.keyframe_is_shown.Goals as goal

pub returns : goal.returns
returns c = keyframe_is_shown
