use Rattle.ffv1_holding.proofs.OneRows.{resized}
use Rattle.ffv1_holding.proofs.pool.repeated.Goals as goal

pub returns : goal.returns
returns g c = resized c.resize.new.self.items c.new-items.result.items c.args.count _ _ c.in_ok-resize.ensures.items c.new-items.ensures.items
    c.new-items.ensures.len
