-- The split that is tried is one alone.
use Rattle.ffv1_weave.proofs.Common.{◌≡◌, ℕ, ◌<◌, List, get_or, sym, ap, ◌∙◌, subst, arith, inl, inr, Contains, cases_lt, Contains-get_or, splits, PassesBy, IsCombinationBy, HasFew, HasMany, IsTriedBy, IsValid, AreFew, AreMany, Check, Split, Regions}
use Rattle.ffv1_weave.proofs.Numbering.{one_number, number_above}

module _ (versions : List (List ℕ)) where
  pub few_or_many : (split : Split) (count : ℕ) → HasFew versions split count → HasMany versions split → ⊥
  few_or_many split count few many = grind (arith, number_above)

  earlier_many : (one other : Split) (m n : ℕ) (h : IsTriedBy versions one m) (k : IsTriedBy versions other n) → h.place < k.place → ⊥
  earlier_many one other m n h k below = few_or_many one m h.few (subst (HasMany versions) h.is (k.finer h.place below))

  pub one_split : (one other : Split) (m n : ℕ) → IsTriedBy versions one m → IsTriedBy versions other n → one ≡ other
  one_split one other m n h k = elim (cases_lt h.place k.place) [
    | inl below ↦ absurd (earlier_many one other m n h k below)
    | inr low ↦ elim (cases_lt k.place h.place) [
      | inl below ↦ absurd (earlier_many other one n m k h below)
      | inr high ↦ let same : h.place ≡ k.place = omega arith in sym h.is ∙ ap (λ i. get_or splits i Regions) same ∙ k.is
    ]
  ]

  pub one_tried : (one other : Split) (m n : ℕ) → IsTriedBy versions one m → IsTriedBy versions other n → m ≡ n
  one_tried one other m n h k =
      let same = one_split one other m n h k in
      let few : HasFew versions other m = subst (λ split. HasFew versions split m) same h.few in
      one_number (IsCombinationBy other versions) m n few.numbered k.few.numbered

  -- a split that is tried is one of those that can be
  pub tried_split : (split : Split) (count : ℕ) → IsTriedBy versions split count → Contains splits split
  tried_split split count h = subst (Contains splits) h.is (Contains-get_or splits h.place Regions h.there)

  pub one_count : (m n : ℕ) → AreFew versions m → AreFew versions n → m ≡ n
  one_count m n h k = one_tried h.split k.split m n h.tried k.tried

  pub few_not_many : (count : ℕ) → AreFew versions count → AreMany versions → ⊥
  few_not_many count few many = few_or_many few.split count few.tried.few (many.each few.split (tried_split few.split count few.tried))

  -- ---- what is valid, by the split that is tried

  module _ (check : Check) (split : Split) (count : ℕ) (tried : IsTriedBy versions split count) where
    pub valid_by : (bytes : List ℕ) → IsCombinationBy split versions bytes → PassesBy check bytes → IsValid check versions bytes
    valid_by bytes combination passes = record { split = split; count = count; tried = tried; combination = combination; passes = passes }

    pub tried_combination : (bytes : List ℕ) → IsValid check versions bytes → IsCombinationBy split versions bytes
    tried_combination bytes h =
        subst (λ g. IsCombinationBy g versions bytes) (one_split h.split split h.count count h.tried tried) h.combination
