-- Long division by any divisor, line by line and bit by bit.
use Rattle.std.proofs.Common.{◌≡◌, ℕ, suc, zero, ◌+◌, ◌-◌, ◌*◌, ◌%◌, ◌^◌, ◌<◌, ◌≤◌, Bool, true, false, cond, not, eqb, List, [], ◌∷◌, ◌++◌, length, take, drop, min, refl, sym, ap, ◌∙◌, subst, arith, add-zero, lit<, lit≤, inl, inr}
use Rattle.std.specs.List.{fold}
use Rattle.std.specs.Int.{bit_at}
use Rattle.std.specs.Int.Bits.{bit_xor, xor_block, xor_assoc, xor_comm, xor_self, xor_zero_r, xor_lt}
use Rattle.std.proofs.Math.Nat.{pow-suc, pow-le-pow_right}
use Rattle.std.proofs.lemmas.List.{take-append-drop, drop-drop, length-take, length-drop}
use Rattle.std.proofs.lemmas.List.Sums.{fold-append}
use Rattle.std.proofs.lemmas.Nat.{pow_pos}
use Rattle.std.proofs.lemmas.Nat.Bits.{bit_at_xor, bit_at-lt, bit_at_cat_high, bit_at_above}
use Rattle.std.proofs.lemmas.Bool.{agree_below_at, eqb-true, cases_lt, cond_both}
use Rattle.std.proofs.lemmas.Grind.{flat_map-append}
use Rattle.ffv1_bits.specs.Bits.{has_bit, bit_value, number_bits, bits_of}
use Rattle.ffv1_bits.specs.Parity.{polynomial_of, Divisor, reduced_by, divided_by, remainder_by}
use Rattle.ffv1_bits.proofs.Sums.{xor_swap, xor_high, same_from_xor}

-- the number has the power of the degree as its highest one, and is odd: its lowest one is 1
pub record IsDivisor (by : Divisor) : Type 0 where
  pub high : 2 ^ by.degree ≤ by.number
  pub small : by.number < 2 * 2 ^ by.degree
  pub odd : by.number % 2 ≡ 1

-- the line at the degree itself
abbrev pub reduced_once : Divisor → ℕ → ℕ
reduced_once by p = cond (has_bit p by.degree) (bit_xor p by.number) p

-- one more bit comes in at the low end of a remainder
abbrev pub shifted_by : Divisor → ℕ → Bool → ℕ
shifted_by by r b = reduced_once by (r * 2 + bit_value b)

-- a line at a high power is the line at the degree, moved up
pub reduced_by_shift : (by : Divisor) (n q p : ℕ) → p < 2 ^ n → reduced_by by n (q * 2 ^ n + p) ≡ reduced_once by q * 2 ^ n + p
reduced_by_shift by n q p small =
    let e : has_bit (q * 2 ^ n + p) (by.degree + n) ≡ has_bit q by.degree =
    ap (λ x. eqb x 1) (bit_at_cat_high q n p (by.degree + n) small (omega arith) ∙ ap (bit_at q) (let d : by.degree + n - n ≡ by.degree = omega arith in d)) in
    ap (λ t. cond t (bit_xor (q * 2 ^ n + p) (by.number * 2 ^ n)) (q * 2 ^ n + p)) e
    ∙ elim (has_bit q by.degree) as (λ t. cond t (bit_xor (q * 2 ^ n + p) (by.number * 2 ^ n)) (q * 2 ^ n + p) ≡ cond t (bit_xor q by.number) q * 2 ^ n + p)
    [ true ↦ xor_high n q by.number p small | false ↦ refl ]

pub polynomial_small : (bits : List Bool) → polynomial_of bits < 2 ^ length bits
unfolding polynomial_of
polynomial_small [] = omega arith
polynomial_small (true ∷ bits) = omega (arith, polynomial_small bits, pow-suc 2 (length bits))
polynomial_small (false ∷ bits) = omega (arith, polynomial_small bits, pow-suc 2 (length bits))

horner_step : (r n p : ℕ) (b : Bool) → r * 2 ^ suc n + (cond b (2 ^ n) 0 + p) ≡ (r * 2 + bit_value b) * 2 ^ n + p
horner_step r n p true = rw pow-suc (omega arith)
horner_step r n p false = rw pow-suc (omega arith)

-- Division of a whole list is division bit by bit, from any remainder on.
pub divided_by_is_fold : (by : Divisor) (r : ℕ) (bits : List Bool)
    → divided_by by (length bits) (r * 2 ^ length bits + polynomial_of bits) ≡ fold (shifted_by by) r bits
unfolding polynomial_of
divided_by_is_fold by r [] = omega arith
divided_by_is_fold by r (b ∷ bits) =
    ap (λ x. divided_by by (length bits) (reduced_by by (length bits) x)) (horner_step r (length bits) (polynomial_of bits) b)
    ∙ ap (divided_by by (length bits)) (reduced_by_shift by (length bits) (r * 2 + bit_value b) (polynomial_of bits) (polynomial_small bits))
    ∙ divided_by_is_fold by (shifted_by by r b) bits

pub remainder_by_is_fold : (by : Divisor) (bits : List Bool) → remainder_by by bits ≡ fold (shifted_by by) 0 bits
unfolding remainder_by
remainder_by_is_fold by bits = ap (divided_by by (length bits)) (omega arith) ∙ divided_by_is_fold by 0 bits

-- ---- the division of a sum is the sum of the divisions

below_two : (a b : ℕ) → a < 2 → b < 2 → eqb ((a + b) % 2) 1 ≡ cond (eqb a 1) (not (eqb b 1)) (eqb b 1)
below_two zero zero h k = refl
below_two zero (suc zero) h k = refl
below_two (suc zero) zero h k = refl
below_two (suc zero) (suc zero) h k = refl
below_two (suc (suc a)) b h k = absurd (omega arith)
below_two zero (suc (suc b)) h k = absurd (omega arith)
below_two (suc zero) (suc (suc b)) h k = absurd (omega arith)

has_bit_xor : (p q i : ℕ) → has_bit (bit_xor p q) i ≡ cond (has_bit p i) (not (has_bit q i)) (has_bit q i)
has_bit_xor p q i =
    ap (λ x. eqb x 1) (bit_at_xor p q i) ∙ below_two (bit_at p i) (bit_at q i) (bit_at-lt p i) (bit_at-lt q i)

cleared : Bool → ℕ → ℕ → ℕ
cleared t p d = cond t (bit_xor p d) p

cleared_xor : (t u : Bool) (p q d : ℕ) → cleared (cond t (not u) u) (bit_xor p q) d ≡ bit_xor (cleared t p d) (cleared u q d)
unfolding cleared
cleared_xor true true p q d = sym (xor_swap p d q d ∙ ap (bit_xor (bit_xor p q)) (xor_self d) ∙ xor_zero_r (bit_xor p q))
cleared_xor true false p q d = xor_assoc p q d ∙ ap (bit_xor p) (xor_comm q d) ∙ sym (xor_assoc p d q)
cleared_xor false true p q d = xor_assoc p q d
cleared_xor false false p q d = refl

pub reduced_by-xor : (by : Divisor) (k p q : ℕ) → reduced_by by k (bit_xor p q) ≡ bit_xor (reduced_by by k p) (reduced_by by k q)
unfolding cleared
reduced_by-xor by k p q =
    ap (λ t. cleared t (bit_xor p q) (by.number * 2 ^ k)) (has_bit_xor p q (by.degree + k))
    ∙ cleared_xor (has_bit p (by.degree + k)) (has_bit q (by.degree + k)) p q (by.number * 2 ^ k)

reduced_once-xor : (by : Divisor) (p q : ℕ) → reduced_once by (bit_xor p q) ≡ bit_xor (reduced_once by p) (reduced_once by q)
unfolding cleared
reduced_once-xor by p q =
    ap (λ t. cleared t (bit_xor p q) by.number) (has_bit_xor p q by.degree)
    ∙ cleared_xor (has_bit p by.degree) (has_bit q by.degree) p q by.number

pub divided_by-xor : (by : Divisor) (n p q : ℕ) → divided_by by n (bit_xor p q) ≡ bit_xor (divided_by by n p) (divided_by by n q)
divided_by-xor by zero p q = refl
divided_by-xor by (suc n) p q = ap (divided_by by n) (reduced_by-xor by n p q) ∙ divided_by-xor by n (reduced_by by n p) (reduced_by by n q)

-- what has no power from the degree on stays
pub reduced_by_low : (by : Divisor) (k p : ℕ) → p < 2 ^ by.degree → reduced_by by k p ≡ p
reduced_by_low by k p small =
    ap (λ x. cond (eqb x 1) (bit_xor p (by.number * 2 ^ k)) p) (bit_at_above p by.degree (by.degree + k) small (omega arith))

pub divided_by_low : (by : Divisor) (n p : ℕ) → p < 2 ^ by.degree → divided_by by n p ≡ p
divided_by_low by zero p small = refl
divided_by_low by (suc n) p small = ap (divided_by by n) (reduced_by_low by n p small) ∙ divided_by_low by n p small

-- ---- a remainder has no power from the degree on

cancelled : (by : Divisor) → IsDivisor by → (low : ℕ) → low < 2 ^ by.degree → bit_xor (1 * 2 ^ by.degree + low) by.number < 2 ^ by.degree
cancelled by is low small =
    let rest : ℕ = by.number - 2 ^ by.degree in
    let below : rest < 2 ^ by.degree = omega (arith, is.high, is.small) in
    let split : 1 * 2 ^ by.degree + rest ≡ by.number = omega (arith, is.high) in
    let none : bit_xor 1 1 * 2 ^ by.degree + bit_xor low rest ≡ bit_xor low rest = omega arith in
    let e : bit_xor (1 * 2 ^ by.degree + low) by.number ≡ bit_xor low rest =
    ap (bit_xor (1 * 2 ^ by.degree + low)) (sym split) ∙ xor_block by.degree 1 1 low rest small below ∙ none in
    subst (λ x. x < 2 ^ by.degree) (sym e) (xor_lt by.degree low rest small below)

-- a number that has the power of the degree, and none above, lacks it after the line
with_power : (by : Divisor) → IsDivisor by → (q : ℕ) → q < 2 * 2 ^ by.degree → 2 ^ by.degree ≤ q → reduced_once by q < 2 ^ by.degree
with_power by is q small high =
    let low : ℕ = q - 2 ^ by.degree in
    let below : low < 2 ^ by.degree = omega (arith, small, high) in
    let split : 1 * 2 ^ by.degree + low ≡ q = omega (arith, high) in
    let none : by.degree - by.degree ≡ 0 = omega arith in
    let bit : has_bit (1 * 2 ^ by.degree + low) by.degree ≡ true =
    ap (λ x. eqb x 1) (bit_at_cat_high 1 by.degree low by.degree below (omega arith) ∙ ap (bit_at 1) none) in
    subst (λ x. reduced_once by x < 2 ^ by.degree) split
    (subst (λ t. cond t (bit_xor (1 * 2 ^ by.degree + low) by.number) (1 * 2 ^ by.degree + low) < 2 ^ by.degree) (sym bit) (cancelled by is low below))

without_power : (by : Divisor) (q : ℕ) → q < 2 ^ by.degree → reduced_once by q ≡ q
without_power by q small = ap (λ x. cond (eqb x 1) (bit_xor q by.number) q) (bit_at_above q by.degree by.degree small (omega arith))

reduced_once_small : (by : Divisor) → IsDivisor by → (q : ℕ) → q < 2 * 2 ^ by.degree → reduced_once by q < 2 ^ by.degree
reduced_once_small by is q small =
    elim (cases_lt q (2 ^ by.degree)) [ inl low ↦ subst (λ x. x < 2 ^ by.degree) (sym (without_power by q low)) low | inr high ↦ with_power by is q small high ]

pub shifted_by_small : (by : Divisor) → IsDivisor by → (r : ℕ) (b : Bool) → r < 2 ^ by.degree → shifted_by by r b < 2 ^ by.degree
shifted_by_small by is r true small = reduced_once_small by is (r * 2 + 1) (omega (arith, small))
shifted_by_small by is r false small = reduced_once_small by is (r * 2 + 0) (omega (arith, small))

pub fold_by_small : (by : Divisor) → IsDivisor by → (r : ℕ) (bits : List Bool) → r < 2 ^ by.degree → fold (shifted_by by) r bits < 2 ^ by.degree
fold_by_small by is r [] small = small
fold_by_small by is r (b ∷ bits) small = fold_by_small by is (shifted_by by r b) bits (shifted_by_small by is r b small)

pub remainder_by_small : (by : Divisor) → IsDivisor by → (bits : List Bool) → remainder_by by bits < 2 ^ by.degree
remainder_by_small by is bits =
    subst (λ x. x < 2 ^ by.degree) (sym (remainder_by_is_fold by bits)) (fold_by_small by is 0 bits (pow_pos by.degree))

-- ---- a step loses nothing: the divisor is odd, so what is even and reduced to 0 was 0

even_zero : (by : Divisor) → IsDivisor by → (p : ℕ) → reduced_once by (p * 2) ≡ 0 → p ≡ 0
even_zero by is p =
    cond_both (has_bit (p * 2) by.degree) (bit_xor (p * 2) by.number) (p * 2) (λ x. x ≡ 0 → p ≡ 0)
    (λ t e. let same : p * 2 ≡ by.number = same_from_xor (p * 2) by.number e in absurd (omega (arith, is.odd, same)))
    (λ f e. omega arith)

doubled_xor : (r s : ℕ) (b : Bool) → bit_xor (r * 2 + bit_value b) (s * 2 + bit_value b) ≡ bit_xor r s * 2
doubled_xor r s true = xor_block 1 r s 1 1 (lit< tt) (lit< tt) ∙ add-zero (bit_xor r s * 2)
doubled_xor r s false = xor_block 1 r s 0 0 (lit< tt) (lit< tt) ∙ add-zero (bit_xor r s * 2)

pub shifted_by_injective : (by : Divisor) → IsDivisor by → (r s : ℕ) (b : Bool) → shifted_by by r b ≡ shifted_by by s b → r ≡ s
shifted_by_injective by is r s b e =
    same_from_xor r s
    (even_zero by is (bit_xor r s)
    (ap (reduced_once by) (sym (doubled_xor r s b)) ∙ reduced_once-xor by (r * 2 + bit_value b) (s * 2 + bit_value b)
    ∙ ap (λ x. bit_xor x (reduced_once by (s * 2 + bit_value b))) e ∙ xor_self (reduced_once by (s * 2 + bit_value b))))

pub fold_by_injective : (by : Divisor) → IsDivisor by → (r s : ℕ) (bits : List Bool)
    → fold (shifted_by by) r bits ≡ fold (shifted_by by) s bits → r ≡ s
fold_by_injective by is r s [] e = e
fold_by_injective by is r s (b ∷ bits) e =
    shifted_by_injective by is r s b (fold_by_injective by is (shifted_by by r b) (shifted_by by s b) bits e)

-- ---- within as many bits as the degree, different bits leave different remainders

same_heads : (x y : Bool) (n p q : ℕ) → p < 2 ^ n → q < 2 ^ n → cond x (2 ^ n) 0 + p ≡ cond y (2 ^ n) 0 + q → (x ≡ y) × (p ≡ q)
same_heads true true n p q h k e = (refl, omega arith)
same_heads true false n p q h k e = absurd (omega arith)
same_heads false true n p q h k e = absurd (omega arith)
same_heads false false n p q h k e = (refl, omega arith)

pub polynomial_injective : (xs ys : List Bool) → length xs ≡ length ys → polynomial_of xs ≡ polynomial_of ys → xs ≡ ys
unfolding polynomial_of
polynomial_injective [] [] l e = refl
polynomial_injective [] (y ∷ ys) l e = absurd (omega arith)
polynomial_injective (x ∷ xs) [] l e = absurd (omega arith)
polynomial_injective (x ∷ xs) (y ∷ ys) l e =
    let same : length xs ≡ length ys = omega arith in
    let small : polynomial_of ys < 2 ^ length xs = subst (λ n. polynomial_of ys < 2 ^ n) (sym same) (polynomial_small ys) in
    let h : (x ≡ y) × (polynomial_of xs ≡ polynomial_of ys) =
    same_heads x y (length xs) (polynomial_of xs) (polynomial_of ys) (polynomial_small xs) small
    (e ∙ ap (λ n. cond y (2 ^ n) 0 + polynomial_of ys) (sym same)) in
    let rest : xs ≡ ys = polynomial_injective xs ys same h.1 in
    cc h.0

window_sum : (r n p q : ℕ) → p < 2 ^ n → q < 2 ^ n → bit_xor (r * 2 ^ n + p) (r * 2 ^ n + q) ≡ bit_xor p q
window_sum r n p q h k =
    xor_block n r r p q h k ∙ ap (λ x. x * 2 ^ n + bit_xor p q) (xor_self r) ∙ omega arith

same_window : (by : Divisor) (r n p q : ℕ) → n ≤ by.degree → p < 2 ^ n → q < 2 ^ n
    → divided_by by n (r * 2 ^ n + p) ≡ divided_by by n (r * 2 ^ n + q) → p ≡ q
same_window by r n p q short h k e =
    let small : bit_xor p q < 2 ^ by.degree =
    let wide : 2 ^ n ≤ 2 ^ by.degree = pow-le-pow_right (lit≤ tt) short in
    let low : bit_xor p q < 2 ^ n = xor_lt n p q h k in omega arith in
    same_from_xor p q
    (sym (divided_by_low by n (bit_xor p q) small) ∙ ap (divided_by by n) (sym (window_sum r n p q h k))
    ∙ divided_by-xor by n (r * 2 ^ n + p) (r * 2 ^ n + q)
    ∙ ap (λ x. bit_xor x (divided_by by n (r * 2 ^ n + q))) e ∙ xor_self (divided_by by n (r * 2 ^ n + q)))

window_injective : (by : Divisor) (r : ℕ) (v w : List Bool) → length v ≡ length w → length v ≤ by.degree
    → fold (shifted_by by) r v ≡ fold (shifted_by by) r w → v ≡ w
window_injective by r v w l short e =
    polynomial_injective v w l
    (same_window by r (length v) (polynomial_of v) (polynomial_of w) short (polynomial_small v)
    (subst (λ n. polynomial_of w < 2 ^ n) (sym l) (polynomial_small w))
    (divided_by_is_fold by r v ∙ e ∙ sym (divided_by_is_fold by r w) ∙ ap (λ n. divided_by by n (r * 2 ^ n + polynomial_of w)) (sym l)))

parts : (n at : ℕ) (xs : List Bool) → take at xs ++ (take n (drop at xs) ++ drop (at + n) xs) ≡ xs
parts n at xs =
    ap (λ ys. take at xs ++ (take n (drop at xs) ++ ys)) (sym (drop-drop n at xs))
    ∙ ap (λ ys. take at xs ++ ys) (take-append-drop n (drop at xs)) ∙ take-append-drop at xs

folded_parts : (by : Divisor) (n at : ℕ) (xs : List Bool)
    → remainder_by by xs ≡ fold (shifted_by by) (fold (shifted_by by) (fold (shifted_by by) 0 (take at xs)) (take n (drop at xs))) (drop (at + n) xs)
folded_parts by n at xs =
    remainder_by_is_fold by xs ∙ ap (fold (shifted_by by) 0) (sym (parts n at xs))
    ∙ fold-append (shifted_by by) 0 (take at xs) (take n (drop at xs) ++ drop (at + n) xs)
    ∙ fold-append (shifted_by by) (fold (shifted_by by) 0 (take at xs)) (take n (drop at xs)) (drop (at + n) xs)

-- Bits that differ only within as many as the degree, and leave the same, are the same.
pub same_bits_by : (by : Divisor) → IsDivisor by → (at : ℕ) (xs ys : List Bool) → length xs ≡ length ys → take at xs ≡ take at ys
    → drop (at + by.degree) xs ≡ drop (at + by.degree) ys → remainder_by by xs ≡ remainder_by by ys → xs ≡ ys
same_bits_by by is at xs ys l front back e =
    let n : ℕ = by.degree in
    let step : ℕ → Bool → ℕ = shifted_by by in
    let v : List Bool = take n (drop at xs) in
    let w : List Bool = take n (drop at ys) in
    let last : fold step (fold step (fold step 0 (take at xs)) v) (drop (at + n) xs) ≡ fold step (fold step (fold step 0 (take at xs)) w) (drop (at + n) xs) =
    sym (folded_parts by n at xs) ∙ e ∙ folded_parts by n at ys
    ∙ ap (λ z. fold step (fold step (fold step 0 z) w) (drop (at + n) ys)) (sym front)
    ∙ ap (fold step (fold step (fold step 0 (take at xs)) w)) (sym back) in
    let same : fold step (fold step 0 (take at xs)) v ≡ fold step (fold step 0 (take at xs)) w =
    fold_by_injective by is (fold step (fold step 0 (take at xs)) v) (fold step (fold step 0 (take at xs)) w) (drop (at + n) xs) last in
    let window : v ≡ w =
    window_injective by (fold step 0 (take at xs)) v w
    (simp (length-take, length-drop) (ap (λ m. min n (m - at)) l)) (simp length-take (omega arith)) same in
    sym (parts n at xs) ∙ ap (λ z. take at xs ++ (z ++ drop (at + n) xs)) window
    ∙ ap (λ z. z ++ (w ++ drop (at + n) xs)) front ∙ ap (λ z. take at ys ++ (w ++ z)) back ∙ parts n at ys

-- ---- bytes

pub byte_is : (b : ℕ) → b < 256 → polynomial_of (number_bits 8 b) ≡ b
unfolding polynomial_of number_bits
byte_is b small = eqb-true (polynomial_of (number_bits 8 b)) b (agree_below_at (λ x. eqb (polynomial_of (number_bits 8 x)) x) (λ _. true) 256 b refl small)

-- one more byte at the end of the list
pub remainder_by_push : (by : Divisor) (bytes : List ℕ) (b : ℕ) → b < 256
    → remainder_by by (bits_of (bytes ++ b ∷ [])) ≡ divided_by by 8 (remainder_by by (bits_of bytes) * 2 ^ 8 + b)
unfolding bits_of number_bits
remainder_by_push by bytes b h =
    remainder_by_is_fold by (bits_of (bytes ++ b ∷ [])) ∙ ap (fold (shifted_by by) 0) (flat_map-append (number_bits 8) bytes (b ∷ []))
    ∙ fold-append (shifted_by by) 0 (bits_of bytes) (number_bits 8 b)
    ∙ ap (λ r. fold (shifted_by by) r (number_bits 8 b)) (sym (remainder_by_is_fold by (bits_of bytes)))
    ∙ sym (divided_by_is_fold by (remainder_by by (bits_of bytes)) (number_bits 8 b))
    ∙ ap (λ x. divided_by by 8 (remainder_by by (bits_of bytes) * 2 ^ 8 + x)) (byte_is b h)
