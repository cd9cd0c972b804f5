use Rattle.std.proofs.Common.{◌+◌, ◌<◌, get_or, length, take_all, arith, rules, subst, sym, ◌∙◌, ap}
use Rattle.std.proofs.lemmas.Bool.Decides.{nat_tests}
use Rattle.std.specs.Int.{IsInRange}
use Rattle.std.specs.Str.Parse.{AllDigits, digits_value}
use Rattle.ffv1_texts.proofs.NumberSteps.{not_digit, value_more, digits_on, too_large}
use Rattle.ffv1_texts.proofs.numbers.read_number.Goals as goal

pub returns-then-not-is_ascii_digit : goal.returns-then-not-is_ascii_digit
returns-then-not-is_ascii_digit c = λ n. not_digit c.args.digits.now c.loop-digit.digit-index n c.loop-digit-test.true
    (λ (range : IsInRange 48 57 (get_or c.args.digits.now c.loop-digit.digit-index 0)). grind (arith, nat_tests, c.if-not-is_ascii_digit.ensures))

pub returns-in_err-checked_mul : goal.returns-in_err-checked_mul
returns-in_err-checked_mul c =
    let i = c.loop-digit.digit-index in
    let range : IsInRange 48 57 (get_or c.args.digits.now i 0) = grind (arith, nat_tests, c.if-not-is_ascii_digit.ensures) in
    let large = c.in_err-checked_mul.ensures in
    rw c.from_residual.ensures (λ n. too_large c.args.digits.now (i + 1) n
    (omega (arith, large, value_more c.args.digits.now i c.loop-digit-test.true range, c.loop-digit.invariant.number)))

pub returns-in_err-number : goal.returns-in_err-number
returns-in_err-number c =
    let i = c.loop-digit.digit-index in
    let range : IsInRange 48 57 (get_or c.args.digits.now i 0) = grind (arith, nat_tests, c.if-not-is_ascii_digit.ensures) in
    let large = c.in_err-number.ensures in
    rw c.from_residual-in_err-number.ensures (λ n. too_large c.args.digits.now (i + 1) n
    (omega (arith, large, value_more c.args.digits.now i c.loop-digit-test.true range, c.loop-digit.invariant.number, c.in_ok-checked_mul.ensures, c.from.ensures)))

pub loop-digit-preserved : goal.loop-digit-preserved
loop-digit-preserved c =
    let i = c.loop-digit.digit-index in
    let range : IsInRange 48 57 (get_or c.args.digits.now i 0) = grind (arith, nat_tests, c.if-not-is_ascii_digit.ensures) in
    record {
      fits = search rules;
      digits = digits_on c.args.digits.now i c.loop-digit-test.true c.loop-digit.invariant.digits range;
      number = omega (
        arith,
        value_more c.args.digits.now i c.loop-digit-test.true range,
        c.loop-digit.invariant.number,
        c.in_ok-checked_mul.ensures,
        c.from.ensures,
        c.in_ok-number.ensures,
      );
    }

pub returns-else-is_empty : goal.returns-else-is_empty
returns-else-is_empty c =
    let some : 0 < length c.args.digits.now = grind (arith, nat_tests, c.is_empty.ensures, c.if-is_empty.false) in
    let whole = take_all c.loop-digit.digit-index c.args.digits.now (omega (arith, c.loop-digit-test.false)) in
    record {
      numeral = (some, subst (AllDigits 10) whole c.loop-digit.invariant.digits);
      value = ap (digits_value 10) (sym whole) ∙ sym c.loop-digit.invariant.number;
      fits = c.loop-digit.invariant.fits;
    }
