use Rattle.std.proofs.Common.{arith}
use Rattle.std.proofs.lemmas.Bool.Decides.{nat_tests}
use Rattle.ffv1_scan.proofs.LineSteps.{one_place}
use Rattle.ffv1_scan.proofs.ranges.next_range.Goals as goal

pub returns-in_err-range : goal.returns-in_err-range
returns-in_err-range c = rw c.from_residual.ensures (λ range is later. c.in_err-range.ensures range is)

pub returns-then-not-follows : goal.returns-then-not-follows
returns-then-not-follows c = λ range is later.
    let same = one_place c.args.line.now range c.in_ok-range.range is c.in_ok-range.ensures in
    absurd (grind (arith, nat_tests, c.follows.ensures, c.if-not-follows.true, same, later))
