use Rattle.ffv1_hold.proofs.Common.{◌∙◌}
use Rattle.ffv1_hold.proofs.reading.read_hold.Goals as goal

pub returns-in-Ok-clause-only : goal.returns-in-Ok-clause-only
returns-in-Ok-clause-only g c v h is profile fits known = c.in-Ok.ensures.ok.0 ∙ c.in_ok-holding.ensures.only v h is profile fits known
