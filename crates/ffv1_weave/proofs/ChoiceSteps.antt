-- The byte strings that versions have between two places, with one more version.
use Rattle.ffv1_weave.proofs.Common.{◌≡◌, ℕ, ◌-◌, ◌<◌, List, [], ◌∷◌, ◌++◌, length, get_or, take, map, Bor, Bool, true, false, eqb, refl, sym, ap, ◌∙◌, subst, arith, inl, inr, Contains, slice_range, cases_lt, false≢true, get_or_append_left, get_or_push, get_or_default, get_or-map, length-map, length_push, take_all, Contains-append_left, Contains-append_right, Contains-append_cases, Contains-get_or, IsAnyAnswer, slice_eq-Decides, Decides-eqb, pointwise, HasSameMembers, HaveLength, AreChoices}
use Rattle.ffv1_weave.proofs.References.{nowhere}

pub alone : (version other : List ℕ) → Contains (version ∷ []) other → other ≡ version
alone version other h = let first : h.0 ≡ 0 = omega (arith, h.1) in sym h.2 ∙ ap (λ k. get_or (version ∷ []) k other) first

-- what is listed once, and one more that is not among it
module _ (listed : List (List ℕ)) (one : List ℕ) where
  pub listed_at : (k : ℕ) → k < length listed → get_or (listed ++ one ∷ []) k [] ≡ get_or listed k []
  listed_at k lt = get_or_append_left listed (one ∷ []) [] k lt

  pub pushed_at : (k : ℕ) → k ≡ length listed → get_or (listed ++ one ∷ []) k [] ≡ one
  pushed_at k is = get_or_push listed one [] k (sym is)

  pub once_pushed : ((j k : ℕ) → j < length listed → k < length listed → get_or listed j [] ≡ get_or listed k [] → j ≡ k)
      → ((k : ℕ) → k < length listed → get_or listed k [] ≡ one → ⊥) → (j k : ℕ) → j < length (listed ++ one ∷ []) → k < length (listed ++ one ∷ [])
      → get_or (listed ++ one ∷ []) j [] ≡ get_or (listed ++ one ∷ []) k [] → j ≡ k
  once_pushed once apart j k low lt same = grind (arith, cases_lt, listed_at, pushed_at, length_push)

module _ (start end : ℕ) where
  pub choices_same : (versions choices : List (List ℕ)) (version : List ℕ) → AreChoices versions start end choices → Contains choices (slice_range version start end)
      → AreChoices (versions ++ version ∷ []) start end choices
  choices_same versions choices version h here =
      record {
        each = λ other there. elim (Contains-append_cases versions (version ∷ []) other there) [
          | inl known ↦ h.each other known
          | inr new ↦ subst (λ z. Contains choices (slice_range z start end)) (sym (alone version other new)) here
        ];
        only = λ k lt. let p = h.only k lt in (p.0, Contains-append_left versions (version ∷ []) p.0 p.1, p.2);
        once = h.once;
      }

  pub choices_more : (versions choices : List (List ℕ)) (version : List ℕ) → AreChoices versions start end choices
      → (Contains choices (slice_range version start end) → ⊥) → AreChoices (versions ++ version ∷ []) start end (choices ++ slice_range version start end ∷ [])
  choices_more versions choices version h new =
      record {
        each = λ other there. elim (Contains-append_cases versions (version ∷ []) other there) [
          | inl known ↦ Contains-append_left choices (choice ∷ []) (slice_range other start end) (h.each other known)
          | inr is ↦ subst (λ z. Contains (choices ++ choice ∷ []) (slice_range z start end)) (sym (alone version other is))
              (Contains-append_right choices (choice ∷ []) choice (0, omega arith, refl))
        ];
        only = λ k lt. elim (cases_lt k (length choices)) [
          | inl below ↦ let p = h.only k below in
              (p.0, Contains-append_left versions (version ∷ []) p.0 p.1, listed_at choices choice k below ∙ p.2)
          | inr above ↦ (
            version,
            Contains-append_right versions (version ∷ []) version (0, omega arith, refl),
            pushed_at choices choice k (omega (arith, length_push choices choice)),
          )
        ];
        once = once_pushed choices choice h.once apart;
      }
    where
      choice : List ℕ
      choice = slice_range version start end

      apart : (k : ℕ) → k < length choices → get_or choices k [] ≡ slice_range version start end → ⊥
      apart k lt is = new (k, lt, get_or_default choices k (slice_range version start end) [] lt ∙ is)

-- ---- the byte strings of the whole length are the versions, each once

whole_range : (size : ℕ) (version : List ℕ) → length version ≡ size → slice_range version 0 size ≡ version
whole_range size version long = let same : size - 0 ≡ size = omega arith in ap (λ n. take n version) same ∙ take_all size version (omega arith)

pub choices_are_versions : (versions choices : List (List ℕ)) (size : ℕ) → HaveLength versions size → AreChoices versions 0 size choices
    → HasSameMembers versions choices
choices_are_versions versions choices size long h version = (
  λ there. subst (Contains choices) (whole_range size version (long version there)) (h.each version there),
  λ there.
      let of = h.only there.0 there.1 in
      let is : of.0 ≡ version =
      sym (whole_range size of.0 (long of.0 of.1)) ∙ sym of.2 ∙ get_or_default choices there.0 [] version there.1 ∙ there.2 in
      subst (Contains versions) is of.1,
)

pub choices_some : (versions choices : List (List ℕ)) (start end : ℕ) → 0 < length versions → AreChoices versions start end choices → 0 < length choices
choices_some versions choices start end some h =
    let first = h.each (get_or versions 0 []) (Contains-get_or versions 0 [] some) in omega (arith, first.1)

-- ---- whether a byte string is among others, as the code asks

-- some reference is to the same bytes
abbrev pub IsAsked : List (Bor (List ℕ)) → List ℕ → Bool → Type 0
IsAsked choices choice returned = IsAnyAnswer (λ other b. pointwise eqb other.now choice ≡ b) choices returned

pub choices_have : (choices : List (Bor (List ℕ))) (choice : List ℕ) → IsAsked choices choice true → Contains (map (λ p. p.now) choices) choice
choices_have choices choice h =
    let same = slice_eq-Decides Decides-eqb (get_or choices h.0 nowhere).now choice (pointwise eqb (get_or choices h.0 nowhere).now choice) refl in (
      h.0,
      omega (arith, h.1, length-map choices (λ (p : Bor (List ℕ)). p.now)),
      get_or-map (λ (p : Bor (List ℕ)). p.now) choices h.0 nowhere choice h.1 ∙ same.0 (h.2 nowhere),
    )

pub choices_lack : (choices : List (Bor (List ℕ))) (choice : List ℕ) → IsAsked choices choice false → Contains (map (λ p. p.now) choices) choice → ⊥
choices_lack choices choice h there =
    let few = length-map choices (λ (p : Bor (List ℕ)). p.now) in
    let lt : there.0 < length choices = omega (arith, there.1) in
    let same = slice_eq-Decides Decides-eqb (get_or choices there.0 nowhere).now choice (pointwise eqb (get_or choices there.0 nowhere).now choice) refl in
    let is = same.1 (sym (get_or-map (λ (p : Bor (List ℕ)). p.now) choices there.0 nowhere choice lt) ∙ there.2) in
    let apart = h there.0 nowhere (omega arith) lt in
    absurd (false≢true (sym apart ∙ is))
