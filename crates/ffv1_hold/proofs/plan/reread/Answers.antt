use Rattle.ffv1_hold.proofs.Common.{rules, Second}
use Rattle.ffv1_hold.proofs.plan.reread.Goals as goal

pub returns-in-Ok-read_holding-clause-same : goal.returns-in-Ok-read_holding-clause-same
returns-in-Ok-read_holding-clause-same c = search (rules, c.in-Ok-read_holding.ensures.only Second c.args.holding.now c.requires.well_formed tt c.in-Ok.ensures.saved.0)
