use Rattle.ffv1_player.proofs.ProfileFrames.{frame_is_played}
use Rattle.ffv1_player.proofs.player.frame_is_played.Goals as goal

pub returns : goal.returns
returns c = frame_is_played
