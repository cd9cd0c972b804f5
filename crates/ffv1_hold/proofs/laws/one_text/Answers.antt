use Rattle.ffv1_hold.proofs.TextLaws.{one_text}
use Rattle.ffv1_hold.proofs.laws.one_text.Goals as goal

pub returns : goal.returns
returns c = one_text
