use Rattle.ffv1_player.proofs.OneShown.{result_is_whole}
use Rattle.ffv1_player.proofs.shown.show_holding.Goals as goal

pub returns-clause-whole : goal.returns-clause-whole
returns-clause-whole g c r key pictures are = result_is_whole c.args.holding.now r key pictures are c.show_tiles.result c.show_tiles.ensures
