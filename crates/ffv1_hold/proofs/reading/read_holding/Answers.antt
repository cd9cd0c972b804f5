use Rattle.ffv1_hold.proofs.Returned.{returned}
use Rattle.ffv1_hold.proofs.reading.read_holding.Goals as goal

pub returns-clause-only : goal.returns-clause-only
returns-clause-only g c v h is taken fits known =
    returned c.args.recordings v h is taken fits (g.R.Source.log c.args.source.now) (g.R.Source.log c.read_parts.new.source) c.read_parts.result known c.read_parts.ensures
