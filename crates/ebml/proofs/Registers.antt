-- The register, bit by bit; and what it begins with.
use Rattle.std.proofs.Common.{◌≡◌, ℕ, zero, suc, ◌+◌, ◌-◌, ◌*◌, ◌%◌, ◌^◌, ◌<◌, ◌≤◌, Bool, true, false, not, List, [], ◌∷◌, ◌++◌, length, reverse, take, drop, map, replicate, refl, sym, ap, ◌∙◌, subst, arith, lit<}
use Rattle.std.specs.Prelude.{bit_xor}
use Rattle.std.specs.List.{fold}
use Rattle.std.specs.Int.{bit_at, w32, bit_not, reverse_bits_onto, bytes_low_first}
use Rattle.std.specs.Int.Bits.{xor_shifted, xor_zero_r}
use Rattle.std.proofs.Math.Nat.{pow-suc}
use Rattle.std.proofs.lemmas.Nat.{xor_lt}
use Rattle.std.proofs.lemmas.Nat.Bits.{bit_at_xor, bit_at_ones, bit_at_not, bit_at-lt, same_from_bits_below}
use Rattle.std.proofs.lemmas.Grind.{flat_map-append}
use Rattle.std.proofs.lemmas.List.{take-append-drop, length-append, length-replicate, length-reverse, length-take, length-map}
use Rattle.std.proofs.lemmas.List.Sums.{fold-append}
use Rattle.ffv1_bits.specs.Bits.{number_bits}
use Rattle.ffv1_bits.specs.Parity.{polynomial_of, divided, remainder_of}
use Rattle.ffv1_bits.proofs.Division.{shifted, divided_is_fold, remainder_is_fold, remainder_small, divided-xor, divided_low, polynomial_small}
use Rattle.ffv1_bits.proofs.Register.{byte_whole}
use Rattle.ffv1_bits.proofs.Numbers.{length-number_bits, polynomial_of-number_bits}
use Rattle.ebml.specs.Crc.{sent_bits, complemented, crc_remainder}
use Rattle.ebml.proofs.Turned.{reversed_bits, reversed_small, sent_low_first}

-- what is left of more bits after what was left of those before them
unfoldable pub left_after : ℕ → List Bool → ℕ
left_after register bits = divided (length bits) (register * 2 ^ length bits + polynomial_of bits)

-- what 32 zeros make 32 ones of: after it the first 32 bits count as complemented
abbrev pub start : ℕ
start = 0x46AF6449

pub left_is_fold : (r : ℕ) (bits : List Bool) → left_after r bits ≡ fold shifted r bits
unfolding left_after
left_is_fold r bits = divided_is_fold r bits

pub left_more : (r : ℕ) (front back : List Bool) → left_after r (front ++ back) ≡ left_after (left_after r front) back
left_more r front back =
    left_is_fold r (front ++ back) ∙ fold-append shifted r front back ∙ ap (λ s. fold shifted s back) (sym (left_is_fold r front))
    ∙ sym (left_is_fold (left_after r front) back)

pub sent_append : (xs ys : List ℕ) → sent_bits (xs ++ ys) ≡ sent_bits xs ++ sent_bits ys
unfolding sent_bits
sent_append xs ys = flat_map-append (λ byte. reverse (number_bits 8 byte)) xs ys

-- as many bits are sent as bytes have
pub length-sent : (xs : List ℕ) → length (sent_bits xs) ≡ 8 * length xs
unfolding sent_bits
length-sent [] = refl
length-sent (x ∷ xs) =
    omega (arith, length-append (reverse (number_bits 8 x)) (sent_bits xs), length-reverse (number_bits 8 x), length-number_bits 8 x, length-sent xs)

-- ---- sums

no_worth : (n : ℕ) → polynomial_of (replicate n false) ≡ 0
unfolding polynomial_of
no_worth zero = refl
no_worth (suc n) = omega (arith, no_worth n)

left_of_none : (r n : ℕ) → left_after r (replicate n false) ≡ divided n (r * 2 ^ n)
unfolding left_after
left_of_none r n =
    ap (λ k. divided k (r * 2 ^ k + polynomial_of (replicate n false))) (length-replicate n false)
    ∙ ap (λ p. divided n (r * 2 ^ n + p)) (no_worth n) ∙ ap (divided n) (let e : r * 2 ^ n + 0 ≡ r * 2 ^ n = omega arith in e)

-- more bits leave beside a register what they leave alone
left_sum : (r : ℕ) (bits : List Bool) → left_after r bits ≡ bit_xor (left_after r (replicate (length bits) false)) (remainder_of bits)
unfolding left_after remainder_of
left_sum r bits =
    let n : ℕ = length bits in
    let p : ℕ = polynomial_of bits in
    ap (divided n) (sym (xor_shifted r n p (polynomial_small bits))) ∙ divided-xor n (r * 2 ^ n) p
    ∙ ap (λ q. bit_xor q (divided n p)) (sym (left_of_none r n))

remainder-append : (front back : List Bool) → remainder_of (front ++ back) ≡ left_after (remainder_of front) back
remainder-append front back =
    remainder_is_fold (front ++ back) ∙ fold-append shifted 0 front back ∙ ap (λ r. fold shifted r back) (sym (remainder_is_fold front))
    ∙ sym (left_is_fold (remainder_of front) back)

-- what is left of bits after others is the sum of what is left of each, the first with zeros in place of the last
pub remainder_sum : (front back : List Bool)
    → remainder_of (front ++ back) ≡ bit_xor (remainder_of (front ++ replicate (length back) false)) (remainder_of back)
remainder_sum front back =
    remainder-append front back ∙ left_sum (remainder_of front) back
    ∙ ap (λ q. bit_xor q (remainder_of back)) (sym (remainder-append front (replicate (length back) false)))

remainder_of_number : (r : ℕ) → r < 2 ^ 32 → remainder_of (number_bits 32 r) ≡ r
unfolding remainder_of
remainder_of_number r small =
    ap (λ n. divided n (polynomial_of (number_bits 32 r))) (length-number_bits 32 r) ∙ ap (divided 32) (polynomial_of-number_bits 32 r small)
    ∙ divided_low 32 r small

-- a register leaves what its own bytes do
pub left_of_register : (t : ℕ) (bits : List Bool)
    → left_after (reverse_bits_onto 32 t 0) bits ≡ remainder_of (sent_bits (bytes_low_first 0 4 t) ++ bits)
left_of_register t bits =
    let own : List Bool = sent_bits (bytes_low_first 0 4 t) in
    let same : remainder_of (sent_bits (bytes_low_first 0 4 t)) ≡ reverse_bits_onto 32 t 0 =
    ap remainder_of (sent_low_first t ∙ sym (reversed_bits 32 t)) ∙ remainder_of_number (reverse_bits_onto 32 t 0) (reversed_small 32 t) in
    ap (λ r. left_after r bits) (sym same) ∙ sym (remainder-append own bits)

-- ---- 8 zeros more

pub zero_byte : (r next : ℕ) → next ≡ divided 8 (r * 2 ^ 8 + 0) → next ≡ left_after r (replicate 8 false)
unfolding number_bits
zero_byte r next is = is ∙ sym (byte_whole r 0 (lit< tt)) ∙ sym (left_is_fold r (replicate 8 false))

-- ---- the register at the start

below_32 : (bits : List Bool) → length bits ≡ 32 → polynomial_of bits < 2 ^ 32
below_32 bits long = subst (λ n. polynomial_of bits < 2 ^ n) long (polynomial_small bits)

complement_worth : (bits : List Bool) → polynomial_of (map not bits) + polynomial_of bits + 1 ≡ 2 ^ length bits
unfolding polynomial_of
complement_worth [] = refl
complement_worth (true ∷ bits) = rw pow-suc (omega (arith, complement_worth bits))
complement_worth (false ∷ bits) = let same = length-map bits not in rw (pow-suc, same) (omega (arith, complement_worth bits))

pub ones : (p : ℕ) → p < 2 ^ 32 → bit_xor 0xFFFFFFFF p ≡ bit_not w32 p
ones p small =
    same_from_bits_below 32 (bit_xor 0xFFFFFFFF p) (bit_not w32 p) (xor_lt 32 0xFFFFFFFF p (lit< tt) small) (omega arith)
    (λ i low. bit_at_xor 0xFFFFFFFF p i ∙ ap (λ b. (b + bit_at p i) % 2) (bit_at_ones 32 i low) ∙ turned (bit_at p i) (bit_at-lt p i) ∙ sym (bit_at_not w32 p i small low))
  where
    turned : (b : ℕ) → b < 2 → (1 + b) % 2 ≡ 1 - b
    turned zero h = refl
    turned (suc zero) h = refl
    turned (suc (suc b)) h = absurd (omega arith)

start_makes_ones : divided 32 (start * 2 ^ 32) ≡ 0xFFFFFFFF
unfolding divided
start_makes_ones = refl

-- 32 bits more after a register: the sum of what the register leaves and the bits
pub left_of_32 : (r : ℕ) (bits : List Bool) → length bits ≡ 32 → left_after r bits ≡ bit_xor (divided 32 (r * 2 ^ 32)) (polynomial_of bits)
unfolding left_after
left_of_32 r bits long =
    ap (λ n. divided n (r * 2 ^ n + polynomial_of bits)) long
    ∙ ap (divided 32) (sym (xor_shifted r 32 (polynomial_of bits) (below_32 bits long)))
    ∙ divided-xor 32 (r * 2 ^ 32) (polynomial_of bits)
    ∙ ap (bit_xor (divided 32 (r * 2 ^ 32))) (divided_low 32 (polynomial_of bits) (below_32 bits long))

pub left_of_zeros : (r : ℕ) → left_after r (replicate 32 false) ≡ divided 32 (r * 2 ^ 32)
unfolding polynomial_of
left_of_zeros r = left_of_32 r (replicate 32 false) refl ∙ xor_zero_r (divided 32 (r * 2 ^ 32))

-- from the start on the first 32 bits count as their complement
first_bits : (bits : List Bool) → length bits ≡ 32 → left_after 0 (map not bits) ≡ left_after start bits
unfolding left_after
first_bits bits long =
    let same : length (map not bits) ≡ 32 = length-map bits not ∙ long in
    let worth : polynomial_of (map not bits) ≡ bit_not w32 (polynomial_of bits) =
    let whole : polynomial_of (map not bits) + polynomial_of bits + 1 ≡ 2 ^ 32 = complement_worth bits ∙ ap (λ n. 2 ^ n) long in omega arith in
    ap (λ n. divided n (0 * 2 ^ n + polynomial_of (map not bits))) same
    ∙ ap (divided 32) (let e : 0 * 2 ^ 32 + polynomial_of (map not bits) ≡ polynomial_of (map not bits) = omega arith in e)
    ∙ divided_low 32 (polynomial_of (map not bits)) (below_32 (map not bits) same)
    ∙ worth ∙ sym (ones (polynomial_of bits) (below_32 bits long))
    ∙ ap (λ r. bit_xor r (polynomial_of bits)) (sym start_makes_ones)
    ∙ sym (left_of_32 start bits long)

pub complemented_left : (bits : List Bool) → 32 ≤ length bits → remainder_of (complemented bits) ≡ left_after start bits
unfolding complemented
complemented_left bits enough =
    let front : List Bool = take 32 bits in
    let back : List Bool = drop 32 bits in
    let long : length (take 32 bits) ≡ 32 = length-take 32 bits ∙ omega arith in
    remainder_is_fold (map not front ++ back) ∙ fold-append shifted 0 (map not front) back
    ∙ ap (λ r. fold shifted r back) (sym (left_is_fold 0 (map not front)) ∙ first_bits front long)
    ∙ sym (left_is_fold (left_after start front) back)
    ∙ sym (left_more start front back) ∙ ap (left_after start) (take-append-drop 32 bits)

-- the remainder, as the code makes it
pub remainder_left : (bytes : List ℕ) → crc_remainder bytes ≡ left_after (left_after start (sent_bits bytes)) (replicate 32 false)
unfolding crc_remainder
remainder_left bytes =
    let zeros : List Bool = replicate 32 false in
    complemented_left (sent_bits bytes ++ zeros) (omega (arith, length-append (sent_bits bytes) (replicate 32 false)))
    ∙ left_more start (sent_bits bytes) (replicate 32 false)

pub crc_remainder_small : (bytes : List ℕ) → crc_remainder bytes < 2 ^ 32
unfolding crc_remainder
crc_remainder_small bytes = remainder_small _
