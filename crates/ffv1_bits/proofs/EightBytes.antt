-- Bytes as a polynomial, and eight bytes as a number and as bits.
use Rattle.std.proofs.Math.Seq.{take-length}
use Rattle.std.proofs.Common.{◌≡◌, ℕ, zero, suc, ◌+◌, ◌-◌, ◌*◌, ◌/◌, ◌%◌, ◌^◌, ◌<◌, Bool, true, false, cond, List, [], ◌∷◌, ◌++◌, length, take, drop, replicate, refl, sym, ap, subst, ◌∙◌, arith, lit<, length-append, length-take, append_assoc}
use Rattle.std.specs.List.{slice_range}
use Rattle.std.specs.Array.{IsFirstChunk}
use Rattle.std.specs.Int.{byte_at, bytes_high_first, from_be_bytes, w64}
use Rattle.std.proofs.lemmas.Grind.{flat_map-append}
use Rattle.std.proofs.lemmas.List.{drop_all, drop_at, drop-drop, take-append-drop}
use Rattle.std.proofs.lemmas.Nat.{pow-add, mod-pow-add, be_bytes_8}
use Rattle.std.proofs.Math.Nat.{pow-suc, mod-eq_of_lt}
use Rattle.ffv1_bits.specs.Bits.{number_bits, bits_of}
use Rattle.ffv1_bits.specs.Parity.{polynomial_of, AreBytes}
use Rattle.ffv1_bits.proofs.Burst.{byte_is, length-bits}
use Rattle.ffv1_bits.proofs.Numbers.{length-number_bits, number_bits-polynomial_of, number_bits-split, number_bits-low}
use Rattle.ffv1_bits.proofs.Bytes.{AreBytes-take, AreBytes-drop}

-- ---- the polynomial of bytes

raised : (b : Bool) (k n p q : ℕ) → cond b (2 ^ (k + n)) 0 + (p * 2 ^ n + q) ≡ (cond b (2 ^ k) 0 + p) * 2 ^ n + q
raised true k n p q = rw pow-add (omega arith)
raised false k n p q = omega arith

pub polynomial_of-append : (xs ys : List Bool) → polynomial_of (xs ++ ys) ≡ polynomial_of xs * 2 ^ length ys + polynomial_of ys
unfolding polynomial_of
polynomial_of-append [] ys = omega arith
polynomial_of-append (b ∷ xs) ys =
    ap (λ n. cond b (2 ^ n) 0 + polynomial_of (xs ++ ys)) (length-append xs ys)
    ∙ ap (λ p. cond b (2 ^ (length xs + length ys)) 0 + p) (polynomial_of-append xs ys)
    ∙ raised b (length xs) (length ys) (polynomial_of xs) (polynomial_of ys)

pub polynomial_of-bytes : (b : ℕ) (bytes : List ℕ) → b < 256 → polynomial_of (bits_of (b ∷ bytes)) ≡ b * 2 ^ (8 * length bytes) + polynomial_of (bits_of bytes)
unfolding bits_of
polynomial_of-bytes b bytes small =
    polynomial_of-append (number_bits 8 b) (bits_of bytes)
    ∙ ap (λ p. p * 2 ^ length (bits_of bytes) + polynomial_of (bits_of bytes)) (byte_is b small)
    ∙ ap (λ n. b * 2 ^ n + polynomial_of (bits_of bytes)) (length-bits bytes)

pub no_polynomial : (n : ℕ) → polynomial_of (bits_of (replicate n 0)) ≡ 0
unfolding bits_of polynomial_of
no_polynomial zero = refl
no_polynomial (suc n) =
    let head : polynomial_of (bits_of (0 ∷ replicate n 0)) ≡ 0 * 2 ^ (8 * length (replicate n 0)) + polynomial_of (bits_of (replicate n 0)) =
    polynomial_of-bytes 0 (replicate n 0) (lit< tt) in
    head ∙ omega (arith, no_polynomial n)

-- ---- eight bytes as a number

length-bits_of-eight : (eight : List ℕ) → length eight ≡ 8 → length (bits_of eight) ≡ 64
length-bits_of-eight eight long = length-bits eight ∙ ap (λ m. 8 * m) long

pow_of_256 : (k : ℕ) → 256 ^ k ≡ 2 ^ (8 * k)
pow_of_256 zero = refl
pow_of_256 (suc k) =
    pow-suc 256 k ∙ ap (λ p. p * 256) (pow_of_256 k) ∙ omega (arith, pow-add 2 8 (8 * k))
    ∙ ap (λ m. 2 ^ m) (let e : 8 + 8 * k ≡ 8 * suc k = omega arith in e)

byte_at_is : (k n : ℕ) → byte_at k n ≡ n / 2 ^ (8 * k) % 2 ^ 8
byte_at_is zero n = omega arith
byte_at_is (suc k) n = ap (λ p. n / p % 256) (pow_of_256 (suc k))

length-high_first : (k n : ℕ) → length (bytes_high_first k n) ≡ k
length-high_first zero n = refl
length-high_first (suc k) n = ap suc (length-high_first k n)

polynomial_of-high_first : (k n : ℕ) → polynomial_of (bits_of (bytes_high_first k n)) ≡ n % 2 ^ (8 * k)
unfolding bits_of polynomial_of
polynomial_of-high_first zero n = omega arith
polynomial_of-high_first (suc k) n =
    let small : byte_at k n < 256 = rw byte_at_is (omega arith) in
    polynomial_of-bytes (byte_at k n) (bytes_high_first k n) small
    ∙ ap (λ m. byte_at k n * 2 ^ (8 * m) + polynomial_of (bits_of (bytes_high_first k n))) (length-high_first k n)
    ∙ ap (λ p. byte_at k n * 2 ^ (8 * k) + p) (polynomial_of-high_first k n)
    ∙ ap (λ b. b * 2 ^ (8 * k) + n % 2 ^ (8 * k)) (byte_at_is k n)
    ∙ sym (mod-pow-add n 8 (8 * k)) ∙ ap (λ m. n % 2 ^ m) (let e : 8 + 8 * k ≡ 8 * suc k = omega arith in e)

polynomial_of-eight : (eight : List ℕ) → length eight ≡ 8 → AreBytes eight → polynomial_of (bits_of eight) ≡ from_be_bytes w64 eight
polynomial_of-eight eight long small =
    let n : ℕ = from_be_bytes w64 eight in
    let fits : n < 2 ^ 64 = omega (arith, small 0, small 1, small 2, small 3, small 4, small 5, small 6, small 7) in
    ap (λ bytes. polynomial_of (bits_of bytes)) (sym (be_bytes_8 eight n long small refl)) ∙ polynomial_of-high_first 8 n ∙ mod-eq_of_lt fits

-- ---- eight bytes read as bits

-- the 56 bits from one of the first eight on
window_of : (n j : ℕ) → j < 8 → n * 2 ^ j % 2 ^ 64 / 2 ^ 8 ≡ n / 2 ^ (8 - j) % 2 ^ 56
window_of n zero h = omega arith
window_of n (suc zero) h = omega arith
window_of n (suc (suc zero)) h = omega arith
window_of n (suc (suc (suc zero))) h = omega arith
window_of n (suc (suc (suc (suc zero)))) h = omega arith
window_of n (suc (suc (suc (suc (suc zero))))) h = omega arith
window_of n (suc (suc (suc (suc (suc (suc zero)))))) h = omega arith
window_of n (suc (suc (suc (suc (suc (suc (suc zero))))))) h = omega arith
window_of n (suc (suc (suc (suc (suc (suc (suc (suc j)))))))) h = absurd (omega arith)

bits_of-eight : (eight : List ℕ) (n : ℕ) → length eight ≡ 8 → AreBytes eight → n ≡ from_be_bytes w64 eight → bits_of eight ≡ number_bits 64 n
bits_of-eight eight n long small is =
    sym (number_bits-polynomial_of (bits_of eight))
    ∙ ap (λ c. number_bits c (polynomial_of (bits_of eight))) (length-bits_of-eight eight long)
    ∙ ap (number_bits 64) (polynomial_of-eight eight long small ∙ sym is)

peeked : (n j : ℕ) (more : List Bool) → j < 8
    → drop j (number_bits 64 n ++ more) ≡ number_bits 56 (n * 2 ^ j % 2 ^ 64 / 2 ^ 8) ++ (number_bits (8 - j) n ++ more)
peeked n j more h =
    let before : number_bits 64 n ≡ number_bits j (n / 2 ^ (64 - j)) ++ number_bits (64 - j) n =
    ap (λ c. number_bits c n) (let e : 64 ≡ j + (64 - j) = omega arith in e) ∙ number_bits-split j (64 - j) n in
    let later : number_bits (64 - j) n ≡ number_bits 56 (n / 2 ^ (8 - j)) ++ number_bits (8 - j) n =
    ap (λ c. number_bits c n) (let e : 64 - j ≡ 56 + (8 - j) = omega arith in e) ∙ number_bits-split 56 (8 - j) n in
    let window : number_bits 56 (n / 2 ^ (8 - j)) ≡ number_bits 56 (n * 2 ^ j % 2 ^ 64 / 2 ^ 8) =
    sym (number_bits-low 56 (n / 2 ^ (8 - j))) ∙ ap (number_bits 56) (sym (window_of n j h)) in
    ap (λ bits. drop j (bits ++ more)) before
    ∙ ap (drop j) (append_assoc (number_bits j (n / 2 ^ (64 - j))) (number_bits (64 - j) n) more)
    ∙ drop_at (number_bits j (n / 2 ^ (64 - j))) (number_bits (64 - j) n ++ more) j (length-number_bits j (n / 2 ^ (64 - j)))
    ∙ ap (λ bits. bits ++ more) later
    ∙ append_assoc (number_bits 56 (n / 2 ^ (8 - j))) (number_bits (8 - j) n) more
    ∙ ap (λ bits. bits ++ (number_bits (8 - j) n ++ more)) window

bits_after : (i : ℕ) (bytes : List ℕ) → drop (8 * i) (bits_of bytes) ≡ bits_of (drop i bytes)
unfolding bits_of number_bits
bits_after zero bytes = refl
bits_after (suc i) [] = drop_all (8 * suc i) [] (omega arith)
bits_after (suc i) (b ∷ bytes) =
    ap (λ n. drop n (bits_of (b ∷ bytes))) (let e : 8 * suc i ≡ 8 + 8 * i = omega arith in e)
    ∙ sym (drop-drop (8 * i) 8 (bits_of (b ∷ bytes))) ∙ bits_after i bytes

pub eight_there : (bytes rest eight : List ℕ) (place end n : ℕ) → AreBytes bytes → end ≡ place + 8 → rest ≡ slice_range bytes place end → IsFirstChunk rest eight 8
    → n ≡ from_be_bytes w64 eight → bits_of (take 8 (drop place bytes)) ≡ number_bits 64 n
eight_there bytes rest eight place end n small ends is front value =
    let later : rest ≡ take 8 (drop place bytes) = is ∙ ap (λ m. take m (drop place bytes)) (let e : end - place ≡ 8 = omega (arith, ends) in e) in
    let size : length rest ≡ 8 = omega (arith, front.enough, ap length later, length-take 8 (drop place bytes)) in
    let all : take 8 rest ≡ rest = ap (λ m. take m rest) (sym size) ∙ take-length rest in
    let whole : take 8 (drop place bytes) ≡ eight = sym later ∙ sym all ∙ sym front.same in
    let long : length eight ≡ 8 = ap length (front.same ∙ all) ∙ size in
    let each : AreBytes eight = subst AreBytes whole (AreBytes-take 8 (drop place bytes) (AreBytes-drop place bytes small)) in
    ap bits_of whole ∙ bits_of-eight eight n long each value

pub peek_some : (bytes : List ℕ) (place n : ℕ) → bits_of (take 8 (drop (place / 8) bytes)) ≡ number_bits 64 n
    → (rest : List Bool) × (drop place (bits_of bytes) ≡ number_bits 56 (n * 2 ^ (place % 8) % 2 ^ 64 / 2 ^ 8) ++ rest)
unfolding bits_of
peek_some bytes place n is =
    let later : List ℕ = drop 8 (drop (place / 8) bytes) in (
      number_bits (8 - place % 8) n ++ bits_of later,
      ap (λ m. drop m (bits_of bytes)) (let e : place ≡ 8 * (place / 8) + place % 8 = omega arith in e)
          ∙ sym (drop-drop (place % 8) (8 * (place / 8)) (bits_of bytes))
          ∙ ap (drop (place % 8)) (bits_after (place / 8) bytes ∙ ap bits_of (sym (take-append-drop 8 (drop (place / 8) bytes)))
          ∙ flat_map-append (number_bits 8) (take 8 (drop (place / 8) bytes)) later ∙ ap (λ bits. bits ++ bits_of later) is)
          ∙ peeked n (place % 8) (bits_of later) (omega arith),
    )
