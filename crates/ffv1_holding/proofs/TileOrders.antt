-- Numbers that fall, read one after the other: `n` is the place after `i`.
use Rattle.std.proofs.Common.{◌≡◌, ℕ, ◌<◌, ◌≤◌, ◌&&◌, true, false, [], ◌∷◌, List, length, get_or, drop, refl, sym, subst, ap, arith, suc, zero}
use Rattle.std.proofs.lemmas.Bool.{lt-ltb, le-ltb}
use Rattle.ffv1_holding.specs.TileOrder.{fall}

passed : (xs : List ℕ) (i : ℕ) → suc i < length xs → get_or xs (suc i) 0 < get_or xs i 0 → fall (drop i xs) ≡ fall (drop (suc i) xs)
passed [] i lt less = absurd (omega (arith, lt))
passed (x ∷ []) i lt less = absurd (omega (arith, lt))
passed (x ∷ y ∷ xs) zero lt less = ap (λ b. b && fall (y ∷ xs)) (lt-ltb y x less)
passed (x ∷ y ∷ xs) (suc i) lt less = passed (y ∷ xs) i (omega (arith, lt)) less

broken : (xs : List ℕ) (i : ℕ) → suc i < length xs → get_or xs i 0 ≤ get_or xs (suc i) 0 → fall (drop i xs) ≡ false
broken [] i lt most = absurd (omega (arith, lt))
broken (x ∷ []) i lt most = absurd (omega (arith, lt))
broken (x ∷ y ∷ xs) zero lt most = ap (λ b. b && fall (y ∷ xs)) (le-ltb y x most)
broken (x ∷ y ∷ xs) (suc i) lt most = broken (y ∷ xs) i (omega (arith, lt)) most

-- Where the next is less, the one before it can be left out.
pub fall_passed : (xs : List ℕ) (i n : ℕ) → n ≡ suc i → n < length xs → get_or xs n 0 < get_or xs i 0 → fall (drop i xs) ≡ fall (drop n xs)
fall_passed xs i n next = subst (λ k. k < length xs → get_or xs k 0 < get_or xs i 0 → fall (drop i xs) ≡ fall (drop k xs)) (sym next) (passed xs i)

-- Where it is not, they do not fall.
pub fall_broken : (xs : List ℕ) (i n : ℕ) → n ≡ suc i → n < length xs → get_or xs i 0 ≤ get_or xs n 0 → fall (drop i xs) ≡ false
fall_broken xs i n next = subst (λ k. k < length xs → get_or xs i 0 ≤ get_or xs k 0 → fall (drop i xs) ≡ false) (sym next) (broken xs i)

-- The last falls, and so do none.
pub fall_last : (xs : List ℕ) (i : ℕ) → length xs ≤ suc i → fall (drop i xs) ≡ true
fall_last [] zero few = refl
fall_last [] (suc i) few = refl
fall_last (x ∷ []) zero few = refl
fall_last (x ∷ y ∷ xs) zero few = absurd (omega (arith, few))
fall_last (x ∷ xs) (suc i) few = fall_last xs i (omega (arith, few))
