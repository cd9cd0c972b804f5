-- Codes in a window of 56 bits.
use Rattle.std.proofs.Common.{◌≡◌, ℕ, zero, suc, ◌+◌, ◌-◌, ◌*◌, ◌/◌, ◌%◌, ◌^◌, ◌<◌, ◌≤◌, true, false, eqb, [], ◌∷◌, ◌++◌, length, take, replicate, List, Bool, append_assoc, refl, sym, ap, subst, ◌∙◌, ⊎_elim, not, nat_eq, IsTrue, arith, lit<, length-append}
use Rattle.std.specs.Int.Count.{count_leading_zeros}
use Rattle.std.proofs.lemmas.Bool.{lt-ltb, cases_lt}
use Rattle.std.proofs.lemmas.Bool.Decides.{nat_tests}
use Rattle.std.proofs.lemmas.Nat.{leading_length, le-div, pow-add, pow_pos, shr_below}
use Rattle.std.proofs.lemmas.Nat.Bits.{bit_at_above}
use Rattle.std.proofs.Math.Nat.{pow-suc, mul-le-mul, div-eq_of_lt}
use Rattle.std.proofs.Math.Pow.{pow_mono}
use Rattle.std.proofs.lemmas.List.{take_at}
use Rattle.ffv1_bits.specs.Bits.{number_bits}
use Rattle.ffv1_bits.specs.Reader.{Reading, ReadsBits}
use Rattle.ffv1_bits.proofs.Numbers.{length-number_bits, number_bits-split, number_bits-low}
use Rattle.ffv1_rice.specs.Codes.{prefix_bits, code_bits}
use Rattle.ffv1_rice.specs.Inner.Codes.{BitsBegin}
use Rattle.ffv1_rice.proofs.Shapes.{short_code, escape_code, short_suffix}

-- ---- leading zeros

-- after fewer than 32 stands a one
pub leading_one : (n z : ℕ) → n < 2 ^ 32 → z ≡ count_leading_zeros 32 n → z < 32 → (2 ^ (31 - z) ≤ n) × (n < 2 ^ (32 - z))
leading_one n z small is few =
    let lead = leading_length 32 n small in
    let width : lead.0 ≡ suc (31 - z) = omega (arith, lead.1, is, few) in
    let power : 2 ^ lead.0 ≡ 2 ^ (31 - z) * 2 = ap (λ m. 2 ^ m) width ∙ pow-suc 2 (31 - z) in
    let same : 2 ^ lead.0 ≡ 2 ^ (32 - z) = ap (λ m. 2 ^ m) (width ∙ omega arith) in
    (omega (arith, power, lead.3), omega (arith, same, lead.2))

-- ---- the parts of a window

no_ones : (n : ℕ) → number_bits n 0 ≡ replicate n false
unfolding number_bits
no_ones zero = refl
no_ones (suc n) = ap (λ b. eqb b 1 ∷ number_bits n 0) (bit_at_above 0 0 n (lit< tt) (omega arith)) ∙ ap (λ bits. false ∷ bits) (no_ones n)

zeros_and_one : (z : ℕ) → z < 12 → number_bits (z + 1) 1 ≡ prefix_bits z
unfolding number_bits prefix_bits
zeros_and_one z few = number_bits-split z 1 1 ∙ ap (λ bits. bits ++ (true ∷ [])) (no_ones z) ∙ rw (lt-ltb z 12 few) refl

-- the bits after the prefix's zeros: a one and the suffix
pub suffix_at : (window z k : ℕ) → z < 12 → k ≤ 16 → 2 ^ (31 - z) ≤ window → window < 2 ^ (32 - z)
    → (2 ^ k ≤ window / 2 ^ (31 - (z + k))) × (window / 2 ^ (31 - (z + k)) < 2 ^ k * 2)
suffix_at window z k few small low high =
    let later : ℕ = 31 - (z + k) in
    let whole : 2 ^ k * 2 ^ later ≤ window =
    rw (← pow-add 2 k later) (subst (λ m. 2 ^ m ≤ window) (let e : 31 - z ≡ k + later = omega arith in e) low) in
    let below : window < 2 ^ (suc k + later) = subst (λ m. window < 2 ^ m) (let e : 32 - z ≡ suc k + later = omega arith in e) high in
    let narrow : window / 2 ^ later < 2 ^ suc k = shr_below window (suc k) later below in
    (le-div (2 ^ k) window (2 ^ later) (pow_pos later) whole, omega (arith, narrow, pow-suc 2 k))

pub small_place : (window z k : ℕ) → z < 12 → k ≤ 16 → 2 ^ (31 - z) ≤ window → window < 2 ^ (32 - z) → window / 2 ^ (31 - (z + k)) < 2 ^ 17
small_place window z k few small low high =
    let bounds = suffix_at window z k few small low high in
    let power : 2 ^ k ≤ 2 ^ 16 = pow_mono {j = 16} small in
    omega (arith, bounds.1, power)

-- the number as the code has it: the one before the suffix stands for a zero
pub short_number : (z k low : ℕ) → z < 12 → k ≤ 16 → 2 ^ k ≤ low → low < 2 ^ 17
    → ((z + 4294967295) % 4294967296 * 2 ^ k % 4294967296 + low) % 4294967296 ≡ z * 2 ^ k + (low - 2 ^ k)
short_number zero k low few small one narrow =
    let power : 2 ^ k ≤ 2 ^ 16 = pow_mono {j = 16} small in
    let some = pow_pos k in
    let wrapped : 4294967295 * 2 ^ k % 4294967296 ≡ 4294967296 - 2 ^ k = omega arith in
    omega (arith, wrapped)
short_number (suc z) k low few small one narrow =
    let power : 2 ^ k ≤ 2 ^ 16 = pow_mono {j = 16} small in
    let less : (suc z + 4294967295) % 4294967296 ≡ z = omega arith in
    let fits : z * 2 ^ k ≤ 11 * 2 ^ 16 = mul-le-mul (let e : z ≤ 11 = omega arith in e) power in
    let more : suc z * 2 ^ k ≡ z * 2 ^ k + 2 ^ k = omega arith in
    rw less (omega (arith, fits, more))

window_one : (window width : ℕ) → 2 ^ width ≤ window → window < 2 ^ (1 + width) → window / 2 ^ width ≡ 1
window_one window width low high =
    let some : 1 ≤ window / 2 ^ width = le-div 1 window (2 ^ width) (pow_pos width) (omega arith) in
    let few : window / 2 ^ width < 2 ^ 1 = shr_below window 1 width high in
    omega arith

pub short_begins : (n window z k suffix number : ℕ) → z < 12 → k ≤ 16 → 2 ^ (31 - z) ≤ window → window < 2 ^ (32 - z)
    → suffix ≡ window / 2 ^ (31 - (z + k)) - 2 ^ k → number ≡ z * 2 ^ k + suffix
    → BitsBegin (number_bits 32 window) (code_bits n number k) (z + 1 + k)
short_begins n window z k suffix number few small low high is value =
    let r : ℕ = 31 - (z + k) in
    let bounds = suffix_at window z k few small low high in
    let fits : suffix < 2 ^ k = omega (arith, bounds.0, bounds.1) in
    let one : window / 2 ^ (k + r) ≡ 1 =
    window_one window (k + r) (subst (λ m. 2 ^ m ≤ window) (let e : 31 - z ≡ k + r = omega arith in e) low)
    (subst (λ m. window < 2 ^ m) (let e : 32 - z ≡ 1 + (k + r) = omega arith in e) high) in
    let high_bits : number_bits (z + 1) (window / 2 ^ (k + r)) ≡ prefix_bits z = ap (number_bits (z + 1)) one ∙ zeros_and_one z few in
    let whole : window / 2 ^ r ≡ 1 * 2 ^ k + suffix = omega (arith, bounds.0) in
    let low_bits : number_bits k (window / 2 ^ r) ≡ number_bits k suffix =
    ap (number_bits k) whole ∙ sym (number_bits-low k (1 * 2 ^ k + suffix)) ∙ ap (number_bits k) (short_suffix k 1 suffix fits) in
    let later : number_bits (k + r) window ≡ number_bits k suffix ++ number_bits r window =
    number_bits-split k r window ∙ ap (λ bits. bits ++ number_bits r window) low_bits in
    let parts : number_bits 32 window ≡ prefix_bits z ++ (number_bits k suffix ++ number_bits r window) =
    ap (λ m. number_bits m window) (let e : 32 ≡ z + 1 + (k + r) = omega arith in e) ∙ number_bits-split (z + 1) (k + r) window
    ∙ ap (λ bits. bits ++ number_bits (k + r) window) high_bits ∙ ap (λ bits. prefix_bits z ++ bits) later in
    let same : number_bits 32 window ≡ code_bits n number k ++ number_bits r window =
    parts ∙ short_code n k z suffix number (number_bits k suffix ++ number_bits r window) (number_bits r window) few fits value refl in
    record {
      rest = number_bits r window;
      same = same;
      long = omega (
        arith,
        ap length same,
        length-number_bits 32 window,
        length-append (code_bits n number k) (number_bits r window),
        length-number_bits r window,
      );
    }

-- the front of a window is its first 32 bits
pub front_parts : (window : ℕ) → number_bits 56 window ≡ number_bits 32 (window / 2 ^ 24) ++ number_bits 24 window
front_parts window = number_bits-split 32 24 window

-- what a window begins with, the bits of which it is the front begin with
pub begins_later : (bits window rest code : List Bool) (count : ℕ) → bits ≡ window ++ rest → BitsBegin window code count → BitsBegin bits code count
begins_later bits window rest code count parts begins = record {
  rest = begins.rest ++ rest;
  same = parts ∙ ap (λ l. l ++ rest) begins.same ∙ append_assoc code begins.rest rest;
  long = begins.long;
}

-- bits that are read stand at the front, and are as many as the place moves
pub read_begins : (old new : Reading) (code : List Bool) (count : ℕ) → count ≡ new.place - old.place → ReadsBits old code new → BitsBegin old.left code count
read_begins old new code count is reads = record {
  rest = new.left;
  same = reads.begins;
  long = omega (arith, reads.moves, is);
}

-- what bits begin with is no longer than they are
pub begun_fits : (bits code : List Bool) (count : ℕ) → BitsBegin bits code count → count ≤ length bits
begun_fits bits code count begins = omega (arith, ap length begins.same, length-append code begins.rest, begins.long)

-- a code that is passed over is read
pub begun_read : (old new : Reading) (code : List Bool) (count : ℕ) → BitsBegin old.left code count → ReadsBits old (take count old.left) new → ReadsBits old code new
begun_read old new code count begins passed =
    let front : take count old.left ≡ code = ap (take count) begins.same ∙ take_at code begins.rest count begins.long in
    subst (λ l. ReadsBits old l new) front passed

-- the reading once it is passed over
pub reading_after : (old : Reading) (code : List Bool) (count : ℕ) → BitsBegin old.left code count → Reading
reading_after old code count begins = record { place = old.place + length code; left = begins.rest }

pub begun_after : (old : Reading) (code : List Bool) (count : ℕ) (begins : BitsBegin old.left code count) → ReadsBits old code (reading_after old code count begins)
unfolding reading_after
begun_after old code count begins = record { begins = begins.same; moves = refl }

pub escape_begins : (n window k number : ℕ) → n ≤ 44 → window < 2 ^ 44 → number ≡ window / 2 ^ (44 - n) + 11 → 12 ≤ number / 2 ^ k
    → BitsBegin (number_bits 56 window) (code_bits n number k) (12 + n)
unfolding prefix_bits
escape_begins n window k number wide small is long =
    let r : ℕ = 44 - n in
    let none : window / 2 ^ 44 ≡ 0 = omega arith in
    let high_bits : number_bits 12 (window / 2 ^ 44) ≡ prefix_bits 12 = ap (number_bits 12) none ∙ no_ones 12 in
    let low_bits : number_bits 44 window ≡ number_bits n (window / 2 ^ r) ++ number_bits r window =
    ap (λ m. number_bits m window) (let e : 44 ≡ n + r = omega arith in e) ∙ number_bits-split n r window in
    let parts : number_bits 56 window ≡ prefix_bits 12 ++ (number_bits n (window / 2 ^ r) ++ number_bits r window) =
    number_bits-split 12 44 window ∙ ap (λ bits. bits ++ number_bits 44 window) high_bits ∙ ap (λ bits. prefix_bits 12 ++ bits) low_bits in
    let same : number_bits 56 window ≡ code_bits n number k ++ number_bits r window =
    parts ∙ escape_code n k (window / 2 ^ r) number (number_bits n (window / 2 ^ r) ++ number_bits r window) (number_bits r window) is long refl in
    record {
      rest = number_bits r window;
      same = same;
      long = omega (
        arith,
        ap length same,
        length-number_bits 56 window,
        length-append (code_bits n number k) (number_bits r window),
        length-number_bits r window,
      );
    }

-- the suffix of an escape is small
pub escape_small : (n window : ℕ) → n ≤ 17 → window < 2 ^ 44 → window / 2 ^ (44 - n) < 2 ^ 17
escape_small n window few small =
    let below : window < 2 ^ (n + (44 - n)) = subst (λ m. window < 2 ^ m) (let e : 44 ≡ n + (44 - n) = omega arith in e) small in
    let narrow : window / 2 ^ (44 - n) < 2 ^ n = shr_below window n (44 - n) below in
    let power : 2 ^ n ≤ 2 ^ 17 = pow_mono {j = 17} few in
    omega (arith, narrow, power)

-- a number has more than n bits where those above them are not all 0
pub large_test : (n u : ℕ) → (IsTrue (not (nat_eq (u / 2 ^ n) 0)) → 2 ^ n ≤ u) × (2 ^ n ≤ u → IsTrue (not (nat_eq (u / 2 ^ n) 0)))
large_test n u =
    let some = pow_pos n in (
      λ test. ⊎_elim (λ less. let none : u / 2 ^ n ≡ 0 = div-eq_of_lt less in absurd (grind (arith, nat_tests))) (λ more. more) (cases_lt u (2 ^ n)),
      λ more. let one : 1 ≤ u / 2 ^ n = le-div 1 u (2 ^ n) some (omega (arith, more)) in grind (arith, nat_tests),
    )
