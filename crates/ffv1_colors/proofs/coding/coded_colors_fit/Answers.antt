use Rattle.ffv1_colors.proofs.Back.{coded_colors_fit}
use Rattle.ffv1_colors.proofs.coding.coded_colors_fit.Goals as goal

pub returns : goal.returns
returns c = coded_colors_fit
