-- Numbers in a fixed count of bits: their value, their last bit, and that no two of them are spelled alike, whatever follows.
use Rattle.std.proofs.Common.{◌≡◌, ℕ, zero, suc, ◌+◌, ◌-◌, ◌*◌, ◌/◌, ◌%◌, ◌^◌, ◌<◌, Bool, true, false, cond, eqb, List, [], ◌∷◌, ◌++◌, length, take, drop, replicate, refl, sym, ap, ◌∙◌, arith, length-append}
use Rattle.std.specs.Int.{bit_at}
use Rattle.std.proofs.Math.Nat.{mod-eq_of_lt}
use Rattle.std.proofs.lemmas.Nat.{mod-pow-add, shr-shr}
use Rattle.std.proofs.lemmas.Nat.Bits.{bit_at-lt, bit_at-suc, bit_at_lowest}
use Rattle.std.proofs.lemmas.List.{take_at, drop_at, length-replicate}
use Rattle.ffv1_bits.specs.Bits.{has_bit, bit_value, number_bits}
use Rattle.ffv1_bits.specs.Parity.{polynomial_of}
use Rattle.ffv1_bits.proofs.Division.{polynomial_small, polynomial_injective}

pub length-number_bits : (count n : ℕ) → length (number_bits count n) ≡ count
unfolding number_bits
length-number_bits zero n = refl
length-number_bits (suc count) n = ap suc (length-number_bits count n)

-- ---- a number from its bits

worth : (b p : ℕ) → b < 2 → cond (eqb b 1) p 0 ≡ b * p
worth zero p h = omega arith
worth (suc zero) p h = omega arith
worth (suc (suc b)) p h = absurd (omega arith)

pub low_part : (count n : ℕ) → polynomial_of (number_bits count n) ≡ n % 2 ^ count
unfolding number_bits polynomial_of
low_part zero n = omega arith
low_part (suc count) n =
    ap (λ l. cond (has_bit n count) (2 ^ l) 0 + polynomial_of (number_bits count n)) (length-number_bits count n)
    ∙ ap (λ p. cond (has_bit n count) (2 ^ count) 0 + p) (low_part count n)
    ∙ ap (λ p. p + n % 2 ^ count) (worth (bit_at n count) (2 ^ count) (bit_at-lt n count))
    ∙ sym (ap (λ k. n % 2 ^ k) (let e : suc count ≡ 1 + count = omega arith in e) ∙ mod-pow-add n 1 count)

pub polynomial_of-number_bits : (count n : ℕ) → n < 2 ^ count → polynomial_of (number_bits count n) ≡ n
polynomial_of-number_bits count n small = low_part count n ∙ mod-eq_of_lt small

-- each list of bits is the number that it is as a polynomial
pub number_bits-polynomial_of : (bits : List Bool) → number_bits (length bits) (polynomial_of bits) ≡ bits
number_bits-polynomial_of bits =
    polynomial_injective (number_bits (length bits) (polynomial_of bits)) bits (length-number_bits (length bits) (polynomial_of bits))
    (polynomial_of-number_bits (length bits) (polynomial_of bits) (polynomial_small bits))

-- ---- the last bit

pub halved : (count n : ℕ) → number_bits (suc count) n ≡ number_bits count (n / 2) ++ (has_bit n 0 ∷ [])
unfolding number_bits
halved zero n = refl
halved (suc count) n =
    ap (λ b. eqb b 1 ∷ number_bits (suc count) n) (bit_at-suc n count)
    ∙ ap (λ bits. has_bit (n / 2) count ∷ bits) (halved count n)

last_bit : (n : ℕ) (bit : Bool) → has_bit (2 * n + bit_value bit) 0 ≡ bit
last_bit n true = let odd : (2 * n + 1) % 2 ≡ 1 = omega arith in ap (λ b. eqb b 1) (bit_at_lowest (2 * n + 1) ∙ odd)
last_bit n false = let even : (2 * n + 0) % 2 ≡ 0 = omega arith in ap (λ b. eqb b 1) (bit_at_lowest (2 * n + 0) ∙ even)

without_last : (n : ℕ) (bit : Bool) → (2 * n + bit_value bit) / 2 ≡ n
without_last n true = omega arith
without_last n false = omega arith

-- one more bit at the end
pub number_bits-push : (count n : ℕ) (bit : Bool) → number_bits (suc count) (2 * n + bit_value bit) ≡ number_bits count n ++ (bit ∷ [])
number_bits-push count n bit =
    halved count (2 * n + bit_value bit)
    ∙ ap (λ m. number_bits count m ++ (has_bit (2 * n + bit_value bit) 0 ∷ [])) (without_last n bit)
    ∙ ap (λ b. number_bits count n ++ (b ∷ [])) (last_bit n bit)

-- ---- parts of a number

has_bit-shr : (n k i : ℕ) → has_bit (n / 2 ^ k) i ≡ has_bit n (i + k)
has_bit-shr n k i = ap (λ m. eqb (m % 2) 1) (shr-shr n k i ∙ ap (λ j. n / 2 ^ j) (let e : k + i ≡ i + k = omega arith in e))

-- its high bits, and then its low ones
pub number_bits-split : (high low n : ℕ) → number_bits (high + low) n ≡ number_bits high (n / 2 ^ low) ++ number_bits low n
unfolding number_bits
number_bits-split zero low n = ap (λ c. number_bits c n) (let e : 0 + low ≡ low = omega arith in e)
number_bits-split (suc high) low n =
    ap (λ c. number_bits c n) (let e : suc high + low ≡ suc (high + low) = omega arith in e)
    ∙ ap (λ bits. has_bit n (high + low) ∷ bits) (number_bits-split high low n)
    ∙ ap (λ b. b ∷ (number_bits high (n / 2 ^ low) ++ number_bits low n)) (sym (has_bit-shr n low high))

-- what lies above the bits counts for nothing
pub number_bits-low : (count n : ℕ) → number_bits count (n % 2 ^ count) ≡ number_bits count n
number_bits-low count n =
    let bits : List Bool = number_bits count n in
    ap (number_bits count) (sym (low_part count n)) ∙ ap (λ c. number_bits c (polynomial_of bits)) (sym (length-number_bits count n))
    ∙ number_bits-polynomial_of bits

-- ---- bits in front of others

-- what begins with fronts of one length has one front and one rest
pub fronts_alike : {A : Type 0} (front other rest more : List A) → length front ≡ length other → front ++ rest ≡ other ++ more → (front ≡ other) × (rest ≡ more)
fronts_alike front other rest more same joined = (
  sym (take_at front rest (length front) refl) ∙ ap (take (length front)) joined ∙ take_at other more (length front) (sym same),
  sym (drop_at front rest (length front) refl) ∙ ap (drop (length front)) joined ∙ drop_at other more (length front) (sym same),
)

-- bits that begin with two numbers of one count
pub one_number : (count m n : ℕ) (rest more : List Bool) → m < 2 ^ count → n < 2 ^ count → number_bits count m ++ rest ≡ number_bits count n ++ more
    → (m ≡ n) × (rest ≡ more)
one_number count m n rest more below also joined =
    let parts = fronts_alike (number_bits count m) (number_bits count n) rest more (length-number_bits count m ∙ sym (length-number_bits count n)) joined in
    (sym (polynomial_of-number_bits count m below) ∙ ap polynomial_of parts.0 ∙ polynomial_of-number_bits count n also, parts.1)

-- bits that are too few go on to some number's
pub goes_on : (count : ℕ) (bits : List Bool) → length bits < count → (n : ℕ) × (b : Bool) × (rest : List Bool) × (number_bits count n ≡ bits ++ (b ∷ rest))
goes_on count bits few =
    let pad : List Bool = replicate (count - length bits - 1) false in
    let padded : List Bool = bits ++ (false ∷ pad) in
    let whole : length (bits ++ (false ∷ pad)) ≡ count = length-append bits (false ∷ pad)
    ∙ (let h : length pad ≡ count - length bits - 1 = length-replicate _ _ in omega arith) in
    (polynomial_of padded, false, pad, ap (λ k. number_bits k (polynomial_of padded)) (sym whole) ∙ number_bits-polynomial_of padded)
