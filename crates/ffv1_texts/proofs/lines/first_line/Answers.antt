use Rattle.std.proofs.Common.{inr, refl}
use Rattle.ffv1_texts.proofs.lines.first_line.Goals as goal

pub returns-in-None-clause-split : goal.returns-in-None-clause-split
returns-in-None-clause-split c = inr (refl, refl)
