-- The number that digits write, digit by digit.
use Rattle.std.proofs.Common.{◌≡◌, ℕ, ◌+◌, ◌-◌, ◌*◌, ◌^◌, ◌<◌, ◌≤◌, List, length, get_or, take, arith, sym, ◌∙◌}
use Rattle.std.proofs.lemmas.Bool.Decides.{nat_tests}
use Rattle.std.proofs.lemmas.Str.Parse.{digit_at, digits_value-take-le}
use Rattle.std.proofs.lemmas.Int.Digits.{digits_value_more, digits_more}
use Rattle.std.specs.Char.{digit_value}
use Rattle.std.specs.Int.{IsInRange}
use Rattle.std.specs.Str.Parse.{AllDigits, digits_value}
use Rattle.ffv1_texts.specs.Numbers.{IsNumber}

value_of_digit : (c : ℕ) → IsInRange 48 57 c → digit_value c ≡ c - 48
value_of_digit c range = grind (arith, nat_tests)

-- a byte that is no digit is in no number
pub not_digit : (digits : List ℕ) (i n : ℕ) → i < length digits → (IsInRange 48 57 (get_or digits i 0) → ⊥) → IsNumber digits n → ⊥
not_digit digits i n lt never number = never (digit_at digits i number.numeral.1 lt)

pub value_more : (digits : List ℕ) (i : ℕ) → i < length digits → IsInRange 48 57 (get_or digits i 0)
    → digits_value 10 (take (i + 1) digits) ≡ digits_value 10 (take i digits) * 10 + (get_or digits i 0 - 48)
value_more digits i lt range = omega (arith, digits_value_more 10 digits i lt, value_of_digit (get_or digits i 0) range)

pub digits_on : (digits : List ℕ) (i : ℕ) → i < length digits → AllDigits 10 (take i digits) → IsInRange 48 57 (get_or digits i 0) → AllDigits 10 (take (i + 1) digits)
digits_on digits i lt all range =
    let e = value_of_digit (get_or digits i 0) range in
    digits_more 10 digits i lt all (omega (arith, e, range))

-- what the first digits write is too much
pub too_large : (digits : List ℕ) (i n : ℕ) → 2 ^ 64 ≤ digits_value 10 (take i digits) → IsNumber digits n → ⊥
too_large digits i n large number =
    absurd (omega (arith, large, digits_value-take-le 10 digits i (omega arith), number.value, number.fits))

-- digits write one number
pub one_value : (digits : List ℕ) (m n : ℕ) → IsNumber digits m → IsNumber digits n → m ≡ n
one_value digits m n p q = sym p.value ∙ q.value
