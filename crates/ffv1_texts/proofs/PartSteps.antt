-- Where a byte parts bytes.
use Rattle.std.proofs.Common.{◌≡◌, ◌≢◌, ℕ, List, [], ◌∷◌, ◌++◌, refl}
use Rattle.std.specs.List.{AllByRecursion}

pub one_parting : (byte : ℕ) (a b p s : List ℕ) → AllByRecursion (λ x. x ≢ byte) a → AllByRecursion (λ x. x ≢ byte) p
    → a ++ byte ∷ b ≡ p ++ byte ∷ s → (a ≡ p) × (b ≡ s)
one_parting byte [] b [] s h k e = (refl, cc)
one_parting byte [] b (x ∷ p) s h k e = absurd (k.0 (let same : x ≡ byte = cc in same))
one_parting byte (x ∷ a) b [] s h k e = absurd (h.0 (let same : x ≡ byte = cc in same))
one_parting byte (x ∷ a) b (y ∷ p) s h k e =
    let rest : a ++ byte ∷ b ≡ p ++ byte ∷ s = cc in
    let first : x ≡ y = cc in
    let one = one_parting byte a b p s h.1 k.1 rest in
    (let same : x ∷ a ≡ y ∷ p = cc (first, one.0) in same, one.1)

pub no_parting : (byte : ℕ) (line p s : List ℕ) → AllByRecursion (λ x. x ≢ byte) line → line ≡ p ++ byte ∷ s → ⊥
no_parting byte [] [] s h e = cc
no_parting byte [] (y ∷ p) s h e = cc
no_parting byte (x ∷ line) [] s h e = h.0 (let same : x ≡ byte = cc in same)
no_parting byte (x ∷ line) (y ∷ p) s h e = no_parting byte line p s h.1 (let rest : line ≡ p ++ byte ∷ s = cc in rest)
