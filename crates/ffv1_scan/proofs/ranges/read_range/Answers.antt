use Rattle.std.proofs.Common.{arith}
use Rattle.ffv1_texts.proofs.NumberSteps.{one_value}
use Rattle.ffv1_scan.proofs.LineSteps.{no_range, range_numbers}
use Rattle.ffv1_scan.proofs.ranges.read_range.Goals as goal

pub returns-in_err-first : goal.returns-in_err-first
returns-in_err-first c = rw c.from_residual.ensures (λ range is. no_range c.args.line.now c.in_err-first.ensures range is)

pub returns-in_err-place : goal.returns-in_err-place
returns-in_err-place c =
    let parts = c.in_ok-first.ensures in
    rw c.from_residual-in_err-place.ensures (λ range is.
    c.in_err-place.ensures range.place (range_numbers c.args.line.now c.in_ok-first.first.now c.in_ok-first.second.now range parts.0 parts.1 is).0)

pub returns-in_err-size : goal.returns-in_err-size
returns-in_err-size c =
    let parts = c.in_ok-first.ensures in
    rw c.from_residual-in_err-size.ensures (λ range is.
    c.in_err-size.ensures range.size (range_numbers c.args.line.now c.in_ok-first.first.now c.in_ok-first.second.now range parts.0 parts.1 is).1)

pub returns-then-size : goal.returns-then-size
returns-then-size c =
    let parts = c.in_ok-first.ensures in
    λ range is.
    let numbers = range_numbers c.args.line.now c.in_ok-first.first.now c.in_ok-first.second.now range parts.0 parts.1 is in
    let same = one_value c.in_ok-first.second.now range.size c.in_ok-size.size numbers.1 c.in_ok-size.ensures in
    absurd (omega (arith, is.few, same))

pub returns : goal.returns
returns c =
    let parts = c.in_ok-first.ensures in
    record {
      place_digits = c.in_ok-first.first.now;
      size_digits = c.in_ok-first.second.now;
      parted = parts.0;
      place = c.in_ok-place.ensures;
      size = c.in_ok-size.ensures;
      few = omega (arith, c.if-size.false);
    }
