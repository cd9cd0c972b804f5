use Rattle.std.proofs.Common.{◌≡◌, ◌^◌, ◌<◌, take}
use Rattle.std.specs.Str.Parse.{AllDigits, digits_value}
use Rattle.ffv1_texts.proofs.numbers.read_number.Given as goal

-- The bytes so far are digits, and write the number.
abbrev pub invariant-loop-digit : goal.invariant-loop-digit
invariant-loop-digit l = record {
  digits : AllDigits 10 (take l.digit-index l.digits);
  fits : l.number < 2 ^ 64;
  number : l.number ≡ digits_value 10 (take l.digit-index l.digits);
}
