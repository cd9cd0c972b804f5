use Rattle.std.proofs.Common.{inl, inr}
use Rattle.ffv1_commands.proofs.holdings.as_filed.Goals as goal

pub returns-in-Ok : goal.returns-in-Ok
returns-in-Ok c = let e = c.in-Ok.ensures in inl (e.own, e.ok.0, e.ok.1)

pub returns-in-Err : goal.returns-in-Err
returns-in-Err c = let e = c.in-Err.ensures in inr (e.other, e.err)
