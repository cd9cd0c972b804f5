use Rattle.ffv1_player.proofs.OneShown.{tile_shown_alike}
use Rattle.ffv1_player.proofs.shown.tiles_are_shown_alone.Goals as goal

pub returns : goal.returns
returns c = λ g h tile reel inside stands. tile_shown_alike g h tile reel inside stands
