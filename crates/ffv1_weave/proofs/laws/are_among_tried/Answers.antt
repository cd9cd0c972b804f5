use Rattle.ffv1_weave.proofs.AmongTried.{are_among_tried}
use Rattle.ffv1_weave.proofs.laws.are_among_tried.Goals as goal

pub returns : goal.returns
returns c = are_among_tried
