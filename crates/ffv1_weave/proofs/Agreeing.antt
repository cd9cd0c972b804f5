-- Places where versions agree, by the first version, and where they do not.
use Rattle.ffv1_weave.proofs.Common.{◌≡◌, ℕ, zero, suc, ◌+◌, ◌<◌, ◌≤◌, List, [], length, get_or, sym, ap, ◌∙◌, subst, arith, inl, inr, ◌⊎◌, Contains, cases_lt, cases_eq, get_or_past, get_or_default, Contains-get_or, HaveLength, AgreeAt, DifferAt}

-- the first versions have the byte of the first
abbrev pub AgreeSoFar : List (List ℕ) → ℕ → ℕ → Type 0
AgreeSoFar versions count i = (k : ℕ) → k < count → get_or (get_or versions k []) i 0 ≡ get_or (get_or versions 0 []) i 0

module _ (versions : List (List ℕ)) where
  pub at_index : (version : List ℕ) (h : Contains versions version) → get_or versions h.0 [] ≡ version
  at_index version h = get_or_default versions h.0 [] version h.1 ∙ h.2

  pub agree_from : (i : ℕ) → AgreeSoFar versions (length versions) i → AgreeAt versions i
  agree_from i h one other there here =
      ap (λ v. get_or v i 0) (sym (at_index one there)) ∙ h there.0 there.1 ∙ sym (h here.0 here.1) ∙ ap (λ v. get_or v i 0) (at_index other here)

  pub differ_from : (i k : ℕ) → k < length versions → (get_or (get_or versions k []) i 0 ≡ get_or (get_or versions 0 []) i 0 → ⊥) → DifferAt versions i
  differ_from i k h apart agree = grind (arith, Contains-get_or)

  -- past their end all agree
  pub agree_past : (size i : ℕ) → HaveLength versions size → size ≤ i → AgreeAt versions i
  agree_past size i long past one other there here = grind (arith, get_or_past)

  -- where they agree up to their end, they agree from there on
  pub agree_on : (size from until : ℕ) → HaveLength versions size → size ≤ until → ((i : ℕ) → from ≤ i → i < until → AgreeAt versions i)
      → (i : ℕ) → from ≤ i → AgreeAt versions i
  agree_on size from until long whole so_far i low = elim (cases_lt i until) [
    | inl below ↦ so_far i low below
    | inr above ↦ agree_past size i long (omega arith)
  ]

  -- ---- two versions that differ, if there are any

  first_agree : (i n : ℕ) → AgreeSoFar versions n i
      ⊎ ((k : ℕ) × (k < n) × (get_or (get_or versions k []) i 0 ≡ get_or (get_or versions 0 []) i 0 → ⊥))
  first_agree i zero = inl (λ k lt. absurd (omega arith))
  first_agree i (suc n) = elim (first_agree i n) [
    | inr found ↦ inr (found.0, (let below = found.1 in omega arith), found.2)
    | inl so_far ↦ elim (cases_eq (get_or (get_or versions n []) i 0) (get_or (get_or versions 0 []) i 0)) [
      | inr apart ↦ inr (n, omega arith, apart)
      | inl same ↦ grind (arith, cases_lt)
    ]
  ]

  pub record HaveTwo (i : ℕ) : Type 0 where
    pub one : List ℕ
    pub other : List ℕ
    pub one_there : Contains versions one
    pub other_there : Contains versions other
    pub differ : get_or one i 0 ≡ get_or other i 0 → ⊥

  pub agree_or_differ : (i : ℕ) → AgreeAt versions i ⊎ HaveTwo i
  agree_or_differ i = elim (first_agree i (length versions)) [
    | inl all ↦ inl (agree_from i all)
    | inr found ↦ grind (arith, Contains-get_or)
  ]

  pub two_of : (i : ℕ) → DifferAt versions i → HaveTwo i
  two_of i differ = elim (agree_or_differ i) [ inl agree ↦ absurd (differ agree) | inr two ↦ two ]

  pub two_differ : (i : ℕ) → HaveTwo i → DifferAt versions i
  two_differ i two agree = two.differ (agree two.one two.other two.one_there two.other_there)

  -- whether they agree at each of so many places
  pub some_differ : (from count : ℕ) → ((i : ℕ) → from ≤ i → i < from + count → AgreeAt versions i)
      ⊎ ((j : ℕ) × (from ≤ j) × (j < from + count) × DifferAt versions j)
  some_differ from zero = inl (λ i low lt. absurd (omega arith))
  some_differ from (suc count) = elim (agree_or_differ (from + count)) [
    | inr two ↦ inr (from + count, omega arith, omega arith, two_differ (from + count) two)
    | inl agree ↦ elim (some_differ from count) [
      | inr found ↦ inr (found.0, found.1, (let below = found.2 in omega arith), found.3)
      | inl rest ↦ inl (λ i low lt. elim (cases_lt i (from + count)) [
        | inl below ↦ rest i low below
        | inr above ↦ let here : from + count ≡ i = omega arith in subst (AgreeAt versions) here agree
      ])
    ]
  ]
