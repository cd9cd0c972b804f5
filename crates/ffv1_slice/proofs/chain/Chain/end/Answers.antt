use Rattle.std.proofs.Common.{arith}
use Rattle.ffv1_slice.proofs.Links.{ends}
use Rattle.ffv1_slice.proofs.chain.Chain.end.Goals as goal

pub returns-in_default : goal.returns-in_default
returns-in_default c =
    ends c.args.self.now c.self.inside.payload.now c.self.inside.place c.last_end.result c.self.view_is c.last_end.ensures.is_end c.last_end.ensures.last
    (omega arith)
