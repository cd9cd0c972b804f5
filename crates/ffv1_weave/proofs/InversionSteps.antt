-- The inversions of one byte string, and what is found among them.
use Rattle.ffv1_weave.proofs.Common.{◌≡◌, ℕ, zero, suc, ◌+◌, ◌-◌, ◌*◌, ◌<◌, ◌≤◌, List, ◌∷◌, ◌++◌, length, arith, inl, inr, Contains, cases_lt, Contains-head, Contains-cons, PassesBy, IsFoundAmong, inversions_from, inversions, inverted, Slice, Found}
use Rattle.ffv1_weave.proofs.FoundSteps.{more_cases, found_skipped}

module _ (bytes : List ℕ) where
  pub inversion_there : (from count bit : ℕ) → from ≤ bit → bit < from + count → Contains (inversions_from bytes from count) (inverted bytes bit)
  inversion_there from zero bit low high = absurd (omega arith)
  inversion_there from (suc count) bit low high =
      elim (cases_lt from bit) [
        | inl later ↦ grind (arith, Contains-cons, inversion_there (from + 1) count bit (omega arith) (omega arith))
        | inr here ↦ grind (arith, Contains-head)
      ]

  pub inversion_of : (from count : ℕ) (other : List ℕ) → Contains (inversions_from bytes from count) other
      → (bit : ℕ) × (bit < from + count) × (inverted bytes bit ≡ other)
  inversion_of from zero other there = let none = there.1 in absurd (omega arith)
  inversion_of from (suc count) other there =
      elim (more_cases (inverted bytes from) (inversions_from bytes (from + 1) count) other there) [
        | inl same ↦ (from, omega arith, same)
        | inr later ↦ let bit = inversion_of (from + 1) count other later in (bit.0, (let low = bit.1 in omega arith), bit.2)
      ]

-- the bytes with one bit more inverted, from the last bit on
pub found_bit_before : (bytes : List ℕ) (bit next : ℕ) (tried : List (List ℕ)) → bit + 1 ≡ next → bit < 8 * length bytes → (what : Found)
    → IsFoundAmong Slice (inverted bytes bit ∷ (inversions_from bytes next (8 * length bytes - next) ++ tried)) what
    → IsFoundAmong Slice (inversions_from bytes bit (8 * length bytes - bit) ++ tried) what
found_bit_before bytes bit next tried near inside what h =
    let here : 8 * length bytes - bit ≡ suc (8 * length bytes - next) = omega arith in
    grind arith

-- so many bits more, where the bytes with one of them inverted never pass
pub found_bits_skipped : (bytes : List ℕ) (bit : ℕ) (tried : List (List ℕ)) → bit ≤ 8 * length bytes → (what : Found) (count : ℕ)
    → ((next : ℕ) → next < bit → bit ≤ next + count → PassesBy Slice (inverted bytes next) → ⊥)
    → IsFoundAmong Slice (inversions_from bytes bit (8 * length bytes - bit) ++ tried) what
    → IsFoundAmong Slice (inversions_from bytes (bit - count) (8 * length bytes - (bit - count)) ++ tried) what
found_bits_skipped bytes bit tried within what zero fails h = grind arith
found_bits_skipped bytes bit tried within what (suc count) fails h =
    let fewer = found_bits_skipped bytes bit tried within what count (λ next low high. fails next low (omega arith)) h in
    elim (cases_lt count bit) [
      | inl more ↦ found_bit_before bytes (bit - suc count) (bit - count) tried (omega arith) (omega arith) what
          (found_skipped Slice (inverted bytes (bit - suc count)) (inversions_from bytes (bit - count) (8 * length bytes - (bit - count)) ++ tried)
          (fails (bit - suc count) (omega arith) (omega arith)) what fewer)
      | inr none ↦ grind arith
    ]

pub found_all_bits : (bytes first : List ℕ) (bit : ℕ) (tried : List (List ℕ)) → bit ≡ 0 → bytes ≡ first → (what : Found)
    → IsFoundAmong Slice (inversions_from bytes bit (8 * length bytes - bit) ++ tried) what → IsFoundAmong Slice (inversions first ++ tried) what
found_all_bits bytes first bit tried none same what h = grind arith
