-- Three versions of two bytes: the first byte is another one in each, and the second is the same in two of them.
use Rattle.ffv1_weave.proofs.Common.{◌≡◌, ℕ, zero, suc, ◌<◌, List, [], ◌∷◌, get_or, ap, arith, slice_range, IsMost}
use Rattle.ffv1_weave.proofs.ThreeVersions.{is_most, is_not_most}

abbrev one : List ℕ
one = 1 ∷ 7 ∷ []

abbrev other : List ℕ
other = 2 ∷ 7 ∷ []

abbrev third : List ℕ
third = 3 ∷ 8 ∷ []

abbrev pub three : List (List ℕ)
three = one ∷ other ∷ third ∷ []

-- they differ in the first byte
differ : (a b : List ℕ) → (get_or a 0 0 ≡ get_or b 0 0 → ⊥) → a ≡ b → ⊥
differ a b apart same = apart (ap (λ z. get_or z 0 0) same)

one_other : one ≡ other → ⊥
one_other = differ one other (λ e. omega arith)

one_third : one ≡ third → ⊥
one_third = differ one third (λ e. omega arith)

other_third : other ≡ third → ⊥
other_third = differ other third (λ e. omega arith)

-- Most have the 7 as the second byte: two of them.
pub seven_is_most : IsMost three 1 2 (7 ∷ [])
seven_is_most = is_most one other third one_other one_third other_third 1 2 (7 ∷ []) (omega arith) (omega arith) (omega arith)

-- Most do not have the 8.
pub eight_is_not_most : IsMost three 1 2 (8 ∷ []) → ⊥
eight_is_not_most h = is_not_most one other third one_other one_third other_third 1 2 (8 ∷ []) (7 ∷ []) (omega arith) h

-- No first byte is had by more versions than another, so most have each of the three.
pub each_is_most : (k : ℕ) → k < 3 → IsMost three 0 1 (slice_range (get_or three k []) 0 1)
each_is_most zero lt = is_most one other third one_other one_third other_third 0 1 (1 ∷ []) (omega arith) (omega arith) (omega arith)
each_is_most (suc zero) lt = is_most one other third one_other one_third other_third 0 1 (2 ∷ []) (omega arith) (omega arith) (omega arith)
each_is_most (suc (suc zero)) lt = is_most one other third one_other one_third other_third 0 1 (3 ∷ []) (omega arith) (omega arith) (omega arith)
each_is_most (suc (suc (suc k))) lt = absurd (omega arith)
