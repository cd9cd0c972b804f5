-- Damage within 32 consecutive bits never passes.
use Rattle.std.proofs.Common.{◌≡◌, ℕ, zero, suc, ◌+◌, ◌*◌, List, [], ◌∷◌, length, take, drop, replicate, Bool, false, refl, sym, ap, ◌∙◌, arith}
use Rattle.ffv1_bits.specs.Bits.{number_bits, bits_of}
use Rattle.ffv1_bits.specs.Parity.{polynomial_of, parity_divisor, divided, remainder_of, remainder_by, DifferWithin32, PassesParity, AreBytes}
use Rattle.ffv1_bits.proofs.Divisors.{same_bits_by}
use Rattle.ffv1_bits.proofs.Division.{is_divisor}
pub use Rattle.ffv1_bits.proofs.Divisors.{byte_is}

pub same_bits : (at : ℕ) (xs ys : List Bool) → length xs ≡ length ys → take at xs ≡ take at ys → drop (at + 32) xs ≡ drop (at + 32) ys
    → remainder_of xs ≡ remainder_of ys → xs ≡ ys
unfolding remainder_of remainder_by divided
same_bits = same_bits_by parity_divisor is_divisor

-- ---- bytes and their bits

pub same_bytes : (xs ys : List ℕ) → AreBytes xs → AreBytes ys → length xs ≡ length ys → bits_of xs ≡ bits_of ys → xs ≡ ys
unfolding bits_of number_bits
same_bytes [] [] h k l e = refl
same_bytes [] (y ∷ ys) h k l e = absurd (omega arith)
same_bytes (x ∷ xs) [] h k l e = absurd (omega arith)
same_bytes (x ∷ xs) (y ∷ ys) h k l e =
    let head : x ≡ y = sym (byte_is x (h 0)) ∙ ap (λ z. polynomial_of (take 8 z)) e ∙ byte_is y (k 0) in
    let rest : xs ≡ ys = same_bytes xs ys (λ i. h (suc i)) (λ i. k (suc i)) (omega arith) (ap (drop 8) e) in
    cc (head, rest)

pub length-bits : (xs : List ℕ) → length (bits_of xs) ≡ 8 * length xs
unfolding bits_of number_bits
length-bits [] = refl
length-bits (x ∷ xs) = omega (arith, length-bits xs)

pub bits_of-zeros : (n : ℕ) → bits_of (replicate n 0) ≡ replicate (8 * n) false
unfolding bits_of number_bits
bits_of-zeros zero = refl
bits_of-zeros (suc n) =
    let eight : suc (suc (suc (suc (suc (suc (suc (suc (8 * n)))))))) ≡ 8 * suc n = omega arith in
    ap (λ bits. false ∷ false ∷ false ∷ false ∷ false ∷ false ∷ false ∷ false ∷ bits) (bits_of-zeros n) ∙ ap (λ m. replicate m false) eight

pub burst : (a b : List ℕ) (at : ℕ) → AreBytes a → AreBytes b → DifferWithin32 a b at → PassesParity a → PassesParity b → a ≡ b
burst a b at h k d p q =
    same_bytes a b h k d.same_length
    (same_bits at (bits_of a) (bits_of b) (length-bits a ∙ ap (λ n. 8 * n) d.same_length ∙ sym (length-bits b)) d.front d.back (p.1 ∙ sym q.1))
