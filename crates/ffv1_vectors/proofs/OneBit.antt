-- One bit of some bytes inverted.
use Rattle.std.proofs.Common.{◌≡◌, ◌≢◌, ℕ, zero, suc, ◌+◌, ◌-◌, ◌*◌, ◌%◌, ◌^◌, ◌<◌, ◌≤◌, Bool, false, not, eqb, List, [], ◌∷◌, ◌++◌, length, get_or, set, refl, sym, ap, ◌∙◌, arith}
use Rattle.std.specs.Prelude.{bit_xor}
use Rattle.std.specs.Int.{bit_at}
use Rattle.std.proofs.Math.Nat.{mod-eq_of_lt}
use Rattle.std.proofs.Math.Pow.{pow-lt}
use Rattle.std.proofs.lemmas.List.{set-append_left, set-append_right, get_or_append_left, get_or-append-add}
use Rattle.std.proofs.lemmas.Nat.Bits.{bit_at_xor, bit_at-lt, bit_at-pow_same, bit_at-pow_other}
use Rattle.ffv1_bits.specs.Bits.{has_bit, number_bits, bits_of}
use Rattle.ffv1_bits.proofs.Numbers.{length-number_bits}

odd_turned : (b : ℕ) → b < 2 → eqb ((b + 1) % 2) 1 ≡ not (eqb b 1)
odd_turned zero small = refl
odd_turned (suc zero) small = refl
odd_turned (suc (suc b)) small = absurd (omega arith)

same_bit : (n k : ℕ) → has_bit (bit_xor n (2 ^ k)) k ≡ not (has_bit n k)
same_bit n k =
    ap (λ b. eqb b 1) (bit_at_xor n (2 ^ k) k ∙ ap (λ b. (bit_at n k + b) % 2) (bit_at-pow_same k))
    ∙ odd_turned (bit_at n k) (bit_at-lt n k)

other_bit : (n k i : ℕ) → i ≢ k → has_bit (bit_xor n (2 ^ k)) i ≡ has_bit n i
other_bit n k i other =
    let small : bit_at n i < 2 = bit_at-lt n i in
    let kept : (bit_at n i + 0) % 2 ≡ bit_at n i = omega arith in
    ap (λ b. eqb b 1) (bit_at_xor n (2 ^ k) i ∙ ap (λ b. (bit_at n i + b) % 2) (bit_at-pow_other k i other) ∙ kept)

bits_below : (count n k : ℕ) → count ≤ k → number_bits count (bit_xor n (2 ^ k)) ≡ number_bits count n
unfolding number_bits
bits_below zero n k below = refl
bits_below (suc count) n k below =
    ap (λ b. b ∷ number_bits count (bit_xor n (2 ^ k))) (other_bit n k count (λ e. omega arith))
    ∙ ap (λ bits. has_bit n count ∷ bits) (bits_below count n k (omega arith))

-- bit j of a number, counted from its highest
number_flipped : (count n j k : ℕ) → j + 1 + k ≡ count → number_bits count (bit_xor n (2 ^ k)) ≡ set (number_bits count n) j
    (not (get_or (number_bits count n) j false))
unfolding number_bits
number_flipped zero n j k at = absurd (omega arith)
number_flipped (suc count) n zero k at =
    let here : k ≡ count = omega arith in
    ap (λ i. has_bit (bit_xor n (2 ^ i)) count ∷ number_bits count (bit_xor n (2 ^ i))) here
    ∙ ap (λ b. b ∷ number_bits count (bit_xor n (2 ^ count))) (same_bit n count)
    ∙ ap (λ bits. not (has_bit n count) ∷ bits) (bits_below count n count (omega arith))
number_flipped (suc count) n (suc j) k at =
    ap (λ b. b ∷ number_bits count (bit_xor n (2 ^ k))) (other_bit n k count (λ e. omega arith))
    ∙ ap (λ bits. has_bit n count ∷ bits) (number_flipped count n j k (omega arith))

-- bit j of byte i
byte_flipped : (bytes : List ℕ) (i j : ℕ) → i < length bytes → j < 8
    → bits_of (set bytes i (bit_xor (get_or bytes i 0) (2 ^ (7 - j)))) ≡ set (bits_of bytes) (8 * i + j) (not (get_or (bits_of bytes) (8 * i + j) false))
unfolding bits_of
byte_flipped [] i j within small = absurd (omega arith)
byte_flipped (x ∷ xs) zero j within small =
    let few : j < length (number_bits 8 x) = omega (arith, length-number_bits 8 x) in
    let place : 8 * 0 + j ≡ j = omega arith in
    ap (λ bits. bits ++ bits_of xs) (number_flipped 8 x j (7 - j) (omega arith))
    ∙ ap (λ b. set (number_bits 8 x) j (not b) ++ bits_of xs) (sym (get_or_append_left (number_bits 8 x) (bits_of xs) false j few))
    ∙ sym (set-append_left (number_bits 8 x) (bits_of xs) j (not (get_or (number_bits 8 x ++ bits_of xs) j false)) few)
    ∙ ap (λ n. set (bits_of (x ∷ xs)) n (not (get_or (bits_of (x ∷ xs)) n false))) (sym place)
byte_flipped (x ∷ xs) (suc i) j within small =
    let eight : length (number_bits 8 x) ≡ 8 = length-number_bits 8 x in
    let bit : Bool = not (get_or (bits_of xs) (8 * i + j) false) in
    let place : 8 * suc i + j ≡ length (number_bits 8 x) + (8 * i + j) = omega arith in
    let back : 8 * suc i + j - 8 ≡ 8 * i + j = omega arith in
    ap (λ bits. number_bits 8 x ++ bits) (byte_flipped xs i j (omega arith) small)
    ∙ ap (λ n. number_bits 8 x ++ set (bits_of xs) n bit) (sym back)
    ∙ sym (set-append_right (number_bits 8 x) (bits_of xs) 8 (8 * suc i + j) bit eight (omega arith))
    ∙ ap (λ b. set (bits_of (x ∷ xs)) (8 * suc i + j) (not b)) (sym (get_or-append-add (number_bits 8 x) (bits_of xs) (8 * i + j) false)
    ∙ ap (λ n. get_or (bits_of (x ∷ xs)) n false) (sym place))

mask_is : (k : ℕ) → k < 8 → 1 * 2 ^ k % 256 ≡ 2 ^ k
mask_is k small =
    let below : 2 ^ k < 2 ^ 8 = pow-lt small in
    let one : 1 * 2 ^ k ≡ 2 ^ k = omega arith in
    ap (λ n. n % 256) one ∙ mod-eq_of_lt below

-- a bit of a byte, as the code turns it
pub bit_flipped : (bytes : List ℕ) (i j : ℕ) → i < length bytes → j < 8
    → bits_of (set bytes i (bit_xor (get_or bytes i 0) (1 * 2 ^ (7 - j) % 256))) ≡ set (bits_of bytes) (8 * i + j)
    (not (get_or (bits_of bytes) (8 * i + j) false))
bit_flipped bytes i j within small =
    ap (λ m. bits_of (set bytes i (bit_xor (get_or bytes i 0) m))) (mask_is (7 - j) (omega arith)) ∙ byte_flipped bytes i j within small
