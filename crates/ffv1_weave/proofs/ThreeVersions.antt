-- Three different versions: how many of them have a byte string is computed, and so is what most have.
use Rattle.ffv1_weave.proofs.Common.{◌≡◌, ℕ, zero, suc, ◌+◌, ◌<◌, ◌≤◌, Bool, true, false, List, [], ◌∷◌, ◌++◌, subst, arith, Contains, slice_range, bytes_eq, false≢true, bytes_eq-Decides, AreNumbered, HasChoice, IsMost}
use Rattle.ffv1_weave.proofs.Numbering.{one_number}
use Rattle.ffv1_weave.proofs.MostSteps.{have_none, have_same, have_more, most_of}

-- one more, where a version has the byte string
abbrev with_one : Bool → ℕ → ℕ
with_one true count = count + 1
with_one false count = count

module _ (start end : ℕ) (choice : List ℕ) where
  abbrev and_by : List ℕ → ℕ → ℕ
  and_by version count = with_one (bytes_eq choice (slice_range version start end)) count

  have_next : (versions : List (List ℕ)) (version : List ℕ) (count : ℕ) → (Contains versions version → ⊥) → AreNumbered (HasChoice versions start end choice) count
      → AreNumbered (HasChoice (versions ++ version ∷ []) start end choice) (and_by version count)
  have_next versions version count new h = grind (arith, have_more, have_same, false≢true, bytes_eq-Decides)

module _ (one other third : List ℕ) where
  pub of_each : (P : List ℕ → Type 0) → P one → P other → P third → (version : List ℕ) → Contains (one ∷ other ∷ third ∷ []) version → P version
  of_each P h i j version (zero, lt, is) = subst P is h
  of_each P h i j version (suc zero, lt, is) = subst P is i
  of_each P h i j version (suc (suc zero), lt, is) = subst P is j
  of_each P h i j version (suc (suc (suc k)), lt, is) = absurd (omega arith)

  module _ (one_other : one ≡ other → ⊥) (one_third : one ≡ third → ⊥) (other_third : other ≡ third → ⊥) (start end : ℕ) where
    -- how many have a byte string
    abbrev pub votes_of : List ℕ → ℕ
    votes_of choice = and_by start end choice third (and_by start end choice other (and_by start end choice one 0))

    counted : (choice : List ℕ) → AreNumbered (HasChoice (one ∷ other ∷ third ∷ []) start end choice) (votes_of choice)
    counted choice =
        have_next start end choice (one ∷ other ∷ []) third _ not_two
        (have_next start end choice (one ∷ []) other _ not_one (have_next start end choice [] one 0 not_none (have_none start end choice)))
      where
        not_none : Contains [] one → ⊥
        not_none there = let low = there.1 in omega arith

        not_one : Contains (one ∷ []) other → ⊥
        not_one (zero, lt, is) = one_other is
        not_one (suc k, lt, is) = omega arith

        not_two : Contains (one ∷ other ∷ []) third → ⊥
        not_two (zero, lt, is) = one_third is
        not_two (suc zero, lt, is) = other_third is
        not_two (suc (suc k), lt, is) = omega arith

    -- It is enough that no more have what one of the three has.
    pub is_most : (choice : List ℕ) → votes_of (slice_range one start end) ≤ votes_of choice → votes_of (slice_range other start end) ≤ votes_of choice
        → votes_of (slice_range third start end) ≤ votes_of choice → IsMost (one ∷ other ∷ third ∷ []) start end choice
    is_most choice first second last =
        most_of (one ∷ other ∷ third ∷ []) start end choice (votes_of choice) (counted choice) (λ version more there numbers.
        let low = of_each (λ v. votes_of (slice_range v start end) ≤ votes_of choice) first second last version there in
        let same = one_number (HasChoice (one ∷ other ∷ third ∷ []) start end (slice_range version start end)) more _ numbers
        (counted (slice_range version start end)) in
        omega arith)

    pub is_not_most : (choice better : List ℕ) → votes_of choice < votes_of better → IsMost (one ∷ other ∷ third ∷ []) start end choice → ⊥
    is_not_most choice better less h =
        let same = one_number (HasChoice (one ∷ other ∷ third ∷ []) start end choice) h.count _ h.have (counted choice) in
        let more = h.others better _ (counted better) in
        omega arith
