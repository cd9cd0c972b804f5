-- Bits in the other order.
use Rattle.std.proofs.Common.{◌≡◌, ℕ, zero, suc, ◌+◌, ◌*◌, ◌/◌, ◌%◌, ◌^◌, ◌<◌, Bool, true, subst, cond, eqb, nat_eq, List, [], ◌∷◌, ◌++◌, length, reverse, get_or, refl, sym, ap, ◌∙◌, arith}
use Rattle.std.specs.Prelude.{bit_xor}
use Rattle.std.specs.Int.{reverse_bits_onto, bytes_low_first}
use Rattle.std.proofs.Math.Nat.{pow-suc}
use Rattle.std.proofs.lemmas.Nat.{xor_shr, xor_mod, xor_block, shr-shr}
use Rattle.std.proofs.lemmas.Nat.Bits.{bit_at_lowest}
use Rattle.std.proofs.lemmas.Bool.{agree_below_at, eqb-true}
use Rattle.std.proofs.lemmas.List.{reverse-append, reverse-reverse, append-nil, append_assoc}
use Rattle.ffv1_bits.specs.Bits.{has_bit, number_bits}
use Rattle.ffv1_bits.specs.Parity.{polynomial_of, divided}
use Rattle.ffv1_bits.proofs.Division.{polynomial_small}
use Rattle.ffv1_bits.proofs.SixteenBytes.{moved_entry, moved_entry_is}
use Rattle.ffv1_bits.proofs.Numbers.{halved, number_bits-polynomial_of, number_bits-split, number_bits-low, polynomial_of-number_bits}
use Rattle.ebml.specs.Crc.{sent_bits}
use Rattle.ebml.specs.declared.table.TheConstants.{ENTRIES}

-- a number in the given count of bits, that of worth 1 first
low_first : ℕ → ℕ → List Bool
low_first zero n = []
low_first (suc count) n = has_bit n 0 ∷ low_first count (n / 2)

length-low_first : (count n : ℕ) → length (low_first count n) ≡ count
unfolding low_first
length-low_first zero n = refl
length-low_first (suc count) n = ap suc (length-low_first count (n / 2))

reverse-number_bits : (count n : ℕ) → reverse (number_bits count n) ≡ low_first count n
unfolding low_first number_bits
reverse-number_bits zero n = refl
reverse-number_bits (suc count) n =
    ap reverse (halved count n) ∙ reverse-append (number_bits count (n / 2)) (has_bit n 0 ∷ [])
    ∙ ap (λ bits. has_bit n 0 ∷ bits) (reverse-number_bits count (n / 2))

one_more : (count a n p : ℕ) → (a * 2 + n % 2) * 2 ^ count + p ≡ a * 2 ^ suc count + (cond (has_bit n 0) (2 ^ count) 0 + p)
one_more count a n p = worth (n % 2) (omega arith) ∙ ap (λ b. a * 2 ^ suc count + (cond (eqb b 1) (2 ^ count) 0 + p)) (sym (bit_at_lowest n))
  where
    worth : (b : ℕ) → b < 2 → (a * 2 + b) * 2 ^ count + p ≡ a * 2 ^ suc count + (cond (eqb b 1) (2 ^ count) 0 + p)
    worth zero h = rw pow-suc (omega arith)
    worth (suc zero) h = rw pow-suc (omega arith)
    worth (suc (suc b)) h = absurd (omega arith)

reversed_onto : (count n a : ℕ) → reverse_bits_onto count n a ≡ a * 2 ^ count + polynomial_of (low_first count n)
unfolding low_first reverse_bits_onto polynomial_of
reversed_onto zero n a = omega arith
reversed_onto (suc count) n a =
    reversed_onto count (n / 2) (a * 2 + n % 2) ∙ one_more count a n (polynomial_of (low_first count (n / 2)))
    ∙ ap (λ m. a * 2 ^ suc count + (cond (has_bit n 0) (2 ^ m) 0 + polynomial_of (low_first count (n / 2)))) (sym (length-low_first count (n / 2)))

-- the bits of a number that is reversed are those of the number in the other order
pub reversed_bits : (count n : ℕ) → number_bits count (reverse_bits_onto count n 0) ≡ reverse (number_bits count n)
reversed_bits count n =
    ap (number_bits count) (reversed_onto count n 0 ∙ omega arith)
    ∙ ap (λ k. number_bits k (polynomial_of (low_first count n))) (sym (length-low_first count n))
    ∙ number_bits-polynomial_of (low_first count n) ∙ sym (reverse-number_bits count n)

pub reversed_twice : (count n : ℕ) → reverse (number_bits count (reverse_bits_onto count n 0)) ≡ number_bits count n
reversed_twice count n = ap reverse (reversed_bits count n) ∙ reverse-reverse (number_bits count n)

pub reversed_small : (count n : ℕ) → reverse_bits_onto count n 0 < 2 ^ count
reversed_small count n =
    let p : ℕ = polynomial_of (low_first count n) in
    let is : reverse_bits_onto count n 0 ≡ polynomial_of (low_first count n) = reversed_onto count n 0 ∙ omega arith in
    let small : polynomial_of (low_first count n) < 2 ^ count =
    subst (λ k. polynomial_of (low_first count n) < 2 ^ k) (length-low_first count n) (polynomial_small (low_first count n)) in
    subst (λ m. m < 2 ^ count) (sym is) small

-- ---- sums and parts that are reversed

sums_onto : (count n m a b : ℕ)
    → reverse_bits_onto count (bit_xor n m) (bit_xor a b) ≡ bit_xor (reverse_bits_onto count n a) (reverse_bits_onto count m b)
unfolding reverse_bits_onto
sums_onto zero n m a b = refl
sums_onto (suc count) n m a b =
    ap (λ h. reverse_bits_onto count h (bit_xor a b * 2 + bit_xor n m % 2)) (xor_shr n m 1)
    ∙ ap (reverse_bits_onto count (bit_xor (n / 2) (m / 2)))
    (ap (λ x. bit_xor a b * 2 + x) (xor_mod n m 1) ∙ sym (xor_block 1 a b (n % 2) (m % 2) (omega arith) (omega arith)))
    ∙ sums_onto count (n / 2) (m / 2) (a * 2 + n % 2) (b * 2 + m % 2)

-- a sum reversed is the sum of both reversed
pub reversed-xor : (count n m : ℕ) → reverse_bits_onto count (bit_xor n m) 0 ≡ bit_xor (reverse_bits_onto count n 0) (reverse_bits_onto count m 0)
reversed-xor count n m = sums_onto count n m 0 0

reversed_is : (count n : ℕ) → reverse_bits_onto count n 0 ≡ polynomial_of (reverse (number_bits count n))
reversed_is count n = reversed_onto count n 0 ∙ omega arith ∙ ap polynomial_of (sym (reverse-number_bits count n))

pub reversed_again : (count n : ℕ) → n < 2 ^ count → reverse_bits_onto count (reverse_bits_onto count n 0) 0 ≡ n
reversed_again count n small =
    reversed_is count (reverse_bits_onto count n 0) ∙ ap polynomial_of (reversed_twice count n) ∙ polynomial_of-number_bits count n small

reversed_low : (count n : ℕ) → reverse_bits_onto count (n % 2 ^ count) 0 ≡ reverse_bits_onto count n 0
reversed_low count n =
    reversed_is count (n % 2 ^ count) ∙ ap (λ bits. polynomial_of (reverse bits)) (number_bits-low count n) ∙ sym (reversed_is count n)

parts_onto : (count more n a : ℕ)
    → reverse_bits_onto (count + more) n a ≡ reverse_bits_onto more (n / 2 ^ count) (reverse_bits_onto count n a)
unfolding reverse_bits_onto
parts_onto zero more n a =
    ap (λ k. reverse_bits_onto k n a) (let e : 0 + more ≡ more = omega arith in e)
    ∙ ap (λ h. reverse_bits_onto more h a) (let e : n ≡ n / 2 ^ 0 = omega arith in e)
parts_onto (suc count) more n a =
    ap (λ k. reverse_bits_onto k n a) (let e : suc count + more ≡ suc (count + more) = omega arith in e)
    ∙ parts_onto count more (n / 2) (a * 2 + n % 2)
    ∙ ap (λ h. reverse_bits_onto more h (reverse_bits_onto count (n / 2) (a * 2 + n % 2)))
    (shr-shr n 1 count ∙ ap (λ k. n / 2 ^ k) (let e : 1 + count ≡ suc count = omega arith in e))

-- the low part of a number comes first
reversed_split : (count more n : ℕ)
    → reverse_bits_onto (count + more) n 0 ≡ reverse_bits_onto count n 0 * 2 ^ more + reverse_bits_onto more (n / 2 ^ count) 0
reversed_split count more n =
    parts_onto count more n 0 ∙ reversed_onto more (n / 2 ^ count) (reverse_bits_onto count n 0)
    ∙ ap (λ p. reverse_bits_onto count n 0 * 2 ^ more + p) (sym (reversed_onto more (n / 2 ^ count) 0 ∙ omega arith))

-- each byte is reversed, and the lowest comes first
pub reversed_four : (n : ℕ) → reverse_bits_onto 32 n 0
    ≡ reverse_bits_onto 8 (n % 256) 0 * 2 ^ 24 + (reverse_bits_onto 8 (n / 2 ^ 8 % 256) 0 * 2 ^ 16
    + (reverse_bits_onto 8 (n / 2 ^ 16 % 256) 0 * 2 ^ 8 + reverse_bits_onto 8 (n / 2 ^ 24 % 256) 0))
reversed_four n =
    let first = reversed_split 8 24 n in
    let second = reversed_split 8 16 (n / 2 ^ 8) in
    let third = reversed_split 8 8 (n / 2 ^ 16) in
    let two : n / 2 ^ 8 / 2 ^ 8 ≡ n / 2 ^ 16 = omega arith in
    let three : n / 2 ^ 16 / 2 ^ 8 ≡ n / 2 ^ 24 = omega arith in
    let low_second = ap (λ h. reverse_bits_onto 16 h 0) two in
    let low_third = ap (λ h. reverse_bits_onto 8 h 0) three in
    let a = reversed_low 8 n in
    let b = reversed_low 8 (n / 2 ^ 8) in
    let c = reversed_low 8 (n / 2 ^ 16) in
    let d = reversed_low 8 (n / 2 ^ 24) in
    omega (arith, first, second, third, low_second, low_third, a, b, c, d)

-- the bytes of a number that is reversed
pub record AreReversed (n turned : ℕ) : Type 0 where
  pub first : turned / 2 ^ 24 % 256 ≡ reverse_bits_onto 8 (n % 256) 0
  pub second : turned / 2 ^ 16 % 256 ≡ reverse_bits_onto 8 (n / 2 ^ 8 % 256) 0
  pub third : turned / 2 ^ 8 % 256 ≡ reverse_bits_onto 8 (n / 2 ^ 16 % 256) 0
  pub last : turned % 256 ≡ reverse_bits_onto 8 (n / 2 ^ 24 % 256) 0

pub bytes_reversed : (n : ℕ) → AreReversed n (reverse_bits_onto 32 n 0)
bytes_reversed n =
    let parts = reversed_four n in
    let a = reversed_small 8 (n % 256) in
    let b = reversed_small 8 (n / 2 ^ 8 % 256) in
    let c = reversed_small 8 (n / 2 ^ 16 % 256) in
    let d = reversed_small 8 (n / 2 ^ 24 % 256) in
    record {
      first = omega (arith, parts, a, b, c, d);
      second = omega (arith, parts, a, b, c, d);
      third = omega (arith, parts, a, b, c, d);
      last = omega (arith, parts, a, b, c, d);
    }

no_byte : reverse_bits_onto 8 0 0 ≡ 0
unfolding reverse_bits_onto
no_byte = refl

-- what moves up by a byte in a number moves down in the number reversed
pub moved_down : (n : ℕ) → n < 2 ^ 32 → reverse_bits_onto 32 (reverse_bits_onto 32 n 0 % 2 ^ 24 * 2 ^ 8) 0 ≡ n / 2 ^ 8
moved_down n small =
    let turned : ℕ = reverse_bits_onto 32 n 0 in
    let moved : ℕ = turned % 2 ^ 24 * 2 ^ 8 in
    let back : n ≡ reverse_bits_onto 32 turned 0 = sym (reversed_again 32 n small) in
    let parts = reversed_four turned in
    let others = reversed_four moved in
    let none : reverse_bits_onto 8 (moved % 256) 0 ≡ 0 = ap (λ b. reverse_bits_onto 8 b 0) (let e : moved % 256 ≡ 0 = omega arith in e) ∙ no_byte in
    let first = ap (λ b. reverse_bits_onto 8 b 0) (let e : moved / 2 ^ 8 % 256 ≡ turned % 256 = omega arith in e) in
    let second = ap (λ b. reverse_bits_onto 8 b 0) (let e : moved / 2 ^ 16 % 256 ≡ turned / 2 ^ 8 % 256 = omega arith in e) in
    let third = ap (λ b. reverse_bits_onto 8 b 0) (let e : moved / 2 ^ 24 % 256 ≡ turned / 2 ^ 16 % 256 = omega arith in e) in
    let low = reversed_small 8 (turned / 2 ^ 24 % 256) in
    omega (arith, back, parts, others, none, first, second, third, low)

-- ---- the tables

entries_agree : (n : ℕ) → n < 4096
    → nat_eq (get_or (get_or ENTRIES (n / 256) []) (n % 256) 0)
    (reverse_bits_onto 32 (divided (8 + 8 * (n / 256)) (reverse_bits_onto 8 (n % 256) 0 * 2 ^ (32 + 8 * (n / 256)))) 0) ≡ true
unfolding reverse_bits_onto divided
entries_agree n h =
    agree_below_at (λ m. nat_eq (get_or (get_or ENTRIES (m / 256) []) (m % 256) 0)
    (reverse_bits_onto 32 (divided (8 + 8 * (m / 256)) (reverse_bits_onto 8 (m % 256) 0 * 2 ^ (32 + 8 * (m / 256)))) 0)) (λ _. true) 4096 n refl h

-- the entry of a byte, in the other order as the byte is
abbrev pub turned_entry : ℕ → ℕ → ℕ
turned_entry more b = reverse_bits_onto 32 (moved_entry more (reverse_bits_onto 8 b 0)) 0

pub entries_are : (more b : ℕ) → more < 16 → b < 256 → get_or (get_or ENTRIES more []) b 0 ≡ turned_entry more b
entries_are more b few small =
    let place : ℕ = 256 * more + b in
    let which : place / 256 ≡ more = omega arith in
    let entry : place % 256 ≡ b = omega arith in
    eqb-true (get_or (get_or ENTRIES more []) b 0)
    (reverse_bits_onto 32 (divided (8 + 8 * more) (reverse_bits_onto 8 b 0 * 2 ^ (32 + 8 * more))) 0)
    (rw (which, entry) at (entries_agree place (omega arith)))
    ∙ ap (λ e. reverse_bits_onto 32 e 0) (sym (moved_entry_is more (reverse_bits_onto 8 b 0) (reversed_small 8 b)))

-- ---- four bytes of a number, the lowest first

byte_bits : (n : ℕ) → number_bits 8 (n % 256) ≡ number_bits 8 n
byte_bits n = number_bits-low 8 n

four_bytes : (n : ℕ) → number_bits 32 n
    ≡ number_bits 8 (n / 16777216 % 256) ++ (number_bits 8 (n / 65536 % 256) ++ (number_bits 8 (n / 256 % 256) ++ number_bits 8 (n % 256)))
four_bytes n =
    let first = number_bits-split 8 24 n in
    let second = number_bits-split 8 16 n in
    let third = number_bits-split 8 8 n in
    let a = byte_bits n in
    let b = byte_bits (n / 256) in
    let c = byte_bits (n / 65536) in
    let d = byte_bits (n / 16777216) in
    cc

turned_four : (a b c d : List Bool) → reverse a ++ (reverse b ++ (reverse c ++ (reverse d ++ []))) ≡ reverse (d ++ (c ++ (b ++ a)))
turned_four a b c d =
    ap (λ bits. reverse a ++ (reverse b ++ (reverse c ++ bits))) (append-nil (reverse d))
    ∙ sym (reverse-append d (c ++ (b ++ a)) ∙ ap (λ bits. bits ++ reverse d) (reverse-append c (b ++ a)
    ∙ ap (λ bits. bits ++ reverse c) (reverse-append b a)) ∙ append_assoc (reverse a ++ reverse b) (reverse c) (reverse d)
    ∙ append_assoc (reverse a) (reverse b) (reverse c ++ reverse d))

pub sent_low_first : (n : ℕ) → sent_bits (bytes_low_first 0 4 n) ≡ reverse (number_bits 32 n)
unfolding sent_bits
sent_low_first n =
    turned_four (number_bits 8 (n % 256)) (number_bits 8 (n / 256 % 256)) (number_bits 8 (n / 65536 % 256)) (number_bits 8 (n / 16777216 % 256))
    ∙ ap reverse (sym (four_bytes n))

-- as a polynomial they are the number reversed
pub polynomial_of-sent : (n : ℕ) → polynomial_of (sent_bits (bytes_low_first 0 4 n)) ≡ reverse_bits_onto 32 n 0
polynomial_of-sent n = ap polynomial_of (sent_low_first n) ∙ sym (reversed_is 32 n)
