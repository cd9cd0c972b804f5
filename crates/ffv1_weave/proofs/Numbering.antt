-- The values of a fact have one number.
use Rattle.ffv1_weave.proofs.Common.{◌≡◌, ℕ, zero, suc, ◌+◌, ◌<◌, ◌≤◌, cond, eqb, eq-eqb, arith, inl, inr, ◌⊎◌, cases_lt, cases_eq, eqb-true, AreNumbered, AreMoreThan}

-- numbers below the one go to different ones below the other
pub record IsInto (f : ℕ → ℕ) (m n : ℕ) : Type 0 where
  pub below : (i : ℕ) → i < m → f i < n
  pub once : (i j : ℕ) → i < m → j < m → f i ≡ f j → i ≡ j

-- where the greatest was met, what the last one gives
abbrev moved : (ℕ → ℕ) → ℕ → ℕ → ℕ → ℕ
moved f m n i = cond (eqb (f i) n) (f m) (f i)

moved_cases : (f : ℕ → ℕ) (m n i : ℕ) → ((f i ≡ n) × (moved f m n i ≡ f m)) ⊎ ((f i ≡ n → ⊥) × (moved f m n i ≡ f i))
moved_cases f m n i = grind (arith, cases_eq, eq-eqb, eqb-true)

pub no_more : (m n : ℕ) (f : ℕ → ℕ) → IsInto f m n → m ≤ n
no_more zero n f h = omega arith
no_more (suc m) zero f h = let none = h.below 0 (omega arith) in absurd (omega arith)
no_more (suc m) (suc n) f h =
    let rest = no_more m n (moved f m n) (record {
      below = grind (arith, moved_cases);
      once = grind (arith, moved_cases);
    }) in
    omega arith

-- Values that are given by the numbers below one number, each by one, have another number.
module _ {X : Type 0} (Q : X → Type 0) (m n : ℕ) (at : ℕ → X) (are : (k : ℕ) → k < m → Q (at k))
    (once : (j k : ℕ) → j < m → k < m → at j ≡ at k → j ≡ k) (numbers : AreNumbered Q n) where
  -- the other number of the same value
  place : (i : ℕ) → (i < m) ⊎ (m ≤ i) → ℕ
  place i (inl lt) = let other = numbers.all (at i) (are i lt) in other.0
  place i (inr past) = 0

  place_is : (i : ℕ) (c : (i < m) ⊎ (m ≤ i)) → i < m → (place i c < n) × (numbers.at (place i c) ≡ at i)
  unfolding place
  place_is i (inl lt) here = let other = numbers.all (at i) (are i lt) in (other.1, other.2)
  place_is i (inr past) here = absurd (omega arith)

  pub numbers_within : m ≤ n
  numbers_within =
      no_more m n (λ i. place i (cases_lt i m)) (record {
        below = λ i lt. let is = place_is i (cases_lt i m) lt in is.0;
        once = grind (arith, place_is, cases_lt);
      })

pub one_number : {X : Type 0} (P : X → Type 0) (m n : ℕ) → AreNumbered P m → AreNumbered P n → m ≡ n
one_number P m n h k =
    let low = numbers_within P m n h.at h.are h.once k in let high = numbers_within P n m k.at k.are k.once h in omega arith

-- there are not more than so many and so many at once
pub number_above : {X : Type 0} (P : X → Type 0) (most count : ℕ) → AreMoreThan P most → AreNumbered P count → most < count
number_above P most count h k =
    let within = numbers_within P (most + 1) count h.at (λ i lt. h.are i (omega arith)) (λ i j low lt same. h.once i j (omega arith) (omega arith) same) k in
    omega arith
