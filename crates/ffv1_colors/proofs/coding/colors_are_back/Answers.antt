use Rattle.ffv1_colors.proofs.Back.{colors_are_back}
use Rattle.ffv1_colors.proofs.coding.colors_are_back.Goals as goal

pub returns : goal.returns
returns c = colors_are_back
