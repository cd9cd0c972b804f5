use Rattle.ffv1_player.proofs.ProfilePictures.{profile_is_shown_alike}
use Rattle.ffv1_player.proofs.shown.profile_is_shown_alike.Goals as goal

pub returns : goal.returns
returns c = profile_is_shown_alike
