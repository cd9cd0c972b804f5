use Rattle.ffv1_player.proofs.SmallNotions.{played_are_frames, decoded_is_frame}
use Rattle.ffv1_player.proofs.player.notions_are_of_players.Goals as goal

pub returns-clause-played : goal.returns-clause-played
returns-clause-played c = played_are_frames

pub returns-clause-profile : goal.returns-clause-profile
returns-clause-profile c = decoded_is_frame
