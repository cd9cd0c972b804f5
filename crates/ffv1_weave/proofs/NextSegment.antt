-- The next segment after a place: whether a place is a boundary, and where the next one is.
use Rattle.ffv1_weave.proofs.Common.{◌≡◌, ℕ, zero, suc, ◌+◌, ◌-◌, ◌<◌, ◌≤◌, List, [], length, get_or, refl, sym, subst, arith, inl, inr, ◌⊎◌, Contains, cases_lt, cases_eq, Contains-get_or, HaveLength, BeginsStreak, EndsStreak, AreParted, IsBoundary, IsSegment}
use Rattle.ffv1_weave.proofs.Agreeing.{at_index}

-- ---- two versions

module _ (one other : List ℕ) where
  -- whether they agree at each of so many places
  same_places : (from count : ℕ) → ((i : ℕ) → from ≤ i → i < from + count → get_or one i 0 ≡ get_or other i 0)
      ⊎ ((i : ℕ) × (from ≤ i) × (i < from + count) × (get_or one i 0 ≡ get_or other i 0 → ⊥))
  same_places from zero = inl (λ i low lt. absurd (omega arith))
  same_places from (suc count) = elim (cases_eq (get_or one (from + count) 0) (get_or other (from + count) 0)) [
    | inr apart ↦ inr (from + count, omega arith, omega arith, apart)
    | inl same ↦ grind (arith, cases_lt, same_places from count)
  ]

  begins_or_not : (distance place : ℕ) → BeginsStreak distance one other place ⊎ (BeginsStreak distance one other place → ⊥)
  begins_or_not distance place = elim (cases_eq (get_or one place 0) (get_or other place 0)) [
    | inl same ↦ inr (λ h. h.differ same)
    | inr apart ↦ elim (same_places (place - distance) (place - (place - distance))) [
      | inl before ↦ inl (record { differ = apart; before = λ i lt near. before i (omega arith) (omega arith) })
      | inr found ↦ inr (λ h. let low = found.1 in let lt = found.2 in found.3 (h.before found.0 (omega arith) (omega arith)))
    ]
  ]

  ends_or_not : (distance place : ℕ) → EndsStreak distance one other place ⊎ (EndsStreak distance one other place → ⊥)
  ends_or_not distance zero = inr (λ h. let next = h.next in absurd (omega arith))
  ends_or_not distance (suc last) = elim (cases_eq (get_or one last 0) (get_or other last 0)) [
    | inl same ↦ grind arith
    | inr apart ↦ elim (same_places (suc last) distance) [
      | inl after ↦ inl (record { last = last; next = omega arith; differ = apart; after = λ i low lt. after i low lt })
      | inr found ↦ inr (λ h. found.3 (h.after found.0 found.1 found.2))
    ]
  ]

  parted_or_not : (distance place : ℕ) → AreParted distance one other place ⊎ (AreParted distance one other place → ⊥)
  parted_or_not distance place = grind (arith, begins_or_not, ends_or_not)

-- ---- all versions

-- whether it is so of some version
some_or_none : (versions : List (List ℕ)) (P : List ℕ → Type 0) → ((version : List ℕ) → P version ⊎ (P version → ⊥)) → (n : ℕ) → n ≤ length versions
    → ((version : List ℕ) × Contains versions version × P version) ⊎ ((k : ℕ) → k < n → P (get_or versions k []) → ⊥)
some_or_none versions P whether zero within = inr (λ k lt. absurd (omega arith))
some_or_none versions P whether (suc n) within = elim (whether (get_or versions n [])) [
  | inl is ↦ inl (get_or versions n [], Contains-get_or versions n [] (omega arith), is)
  | inr never ↦ grind (arith, cases_lt, some_or_none versions P whether n (omega arith))
]

pub one_or_none : (versions : List (List ℕ)) (P : List ℕ → Type 0) → ((version : List ℕ) → P version ⊎ (P version → ⊥))
    → ((version : List ℕ) × Contains versions version × P version) ⊎ ((version : List ℕ) → Contains versions version → P version → ⊥)
one_or_none versions P whether = elim (some_or_none versions P whether (length versions) (omega arith)) [
  | inl found ↦ inl found
  | inr none ↦ inr (λ version there is. none there.0 there.1 (subst P (sym (at_index versions version there)) is))
]

module _ (distance : ℕ) (versions : List (List ℕ)) where
  abbrev HasParted : ℕ → List ℕ → Type 0
  HasParted place one = (other : List ℕ) × Contains versions other × AreParted distance one other place

  has_parted_or_not : (place : ℕ) (one : List ℕ) → HasParted place one ⊎ (HasParted place one → ⊥)
  has_parted_or_not place one = elim (one_or_none versions (λ other. AreParted distance one other place) (λ other. parted_or_not one other distance place)) [
    | inl found ↦ inl found
    | inr none ↦ inr (λ h. none h.0 h.1 h.2)
  ]

  pub boundary_or_not : (place : ℕ) → IsBoundary distance versions place ⊎ (IsBoundary distance versions place → ⊥)
  boundary_or_not place = elim (one_or_none versions (HasParted place) (has_parted_or_not place)) [
    | inl found ↦ inl (record { one = found.0; other = found.2.0; one_there = found.1; other_there = found.2.1; parted = found.2.2 })
    | inr none ↦ inr (λ h. none h.one h.one_there (h.other, h.other_there, h.parted))
  ]

  -- the next boundary, or the versions' end
  record HasNext (from size : ℕ) : Type 0 where
    end : ℕ
    beyond : from < end
    within : end ≤ size
    quiet : (i : ℕ) → from < i → i < end → IsBoundary distance versions i → ⊥
    last : IsBoundary distance versions end ⊎ (end ≡ size)

  -- as far as it is sought there is none, or it is found
  sought : (from size n : ℕ) → from + n < size → ((i : ℕ) → from < i → i ≤ from + n → IsBoundary distance versions i → ⊥) ⊎ HasNext from size
  sought from size zero below = inl (λ i low high boundary. omega arith)
  sought from size (suc n) below = elim (sought from size n (omega arith)) [
    | inr found ↦ inr found
    | inl none ↦ elim (boundary_or_not (from + suc n)) [
      | inl boundary ↦ inr (record {
        end = from + suc n;
        beyond = omega arith;
        within = omega arith;
        quiet = λ i low lt. none i low (omega arith);
        last = inl boundary;
      })
      | inr never ↦ inl (λ i low high boundary. elim (cases_lt i (from + suc n)) [
        | inl before ↦ none i low (omega arith) boundary
        | inr above ↦ let here : i ≡ from + suc n = omega arith in never (subst (IsBoundary distance versions) here boundary)
      ])
    ]
  ]

  next_boundary : (from size : ℕ) → from < size → HasNext from size
  next_boundary from size below = elim (sought from size (size - from - 1) (omega arith)) [
    | inr found ↦ found
    | inl none ↦ record { end = size; beyond = below; within = omega arith; quiet = λ i low lt. none i low (omega arith); last = inr refl }
  ]

  pub record IsNextSegment (from size : ℕ) : Type 0 where
    pub end : ℕ
    pub within : end ≤ size
    pub segment : IsSegment distance versions from end
    pub last : IsBoundary distance versions end ⊎ (end ≡ size)

  -- From the versions' start, or from a boundary, there is a next segment.
  pub next_segment : (from size : ℕ) → HaveLength versions size → 0 < length versions → from < size → (from ≡ 0) ⊎ IsBoundary distance versions from
      → IsNextSegment from size
  next_segment from size long some below first =
      let next = next_boundary from size below in
      let there = Contains-get_or versions 0 [] some in
      grind arith
