use Rattle.ffv1_splice.proofs.TriedLinks.{links_are_tried}
use Rattle.ffv1_splice.proofs.laws.links_are_tried.Goals as goal

pub returns : goal.returns
returns c = links_are_tried
