-- What is among the combinations that are tried, and that nothing else than an original among them is woven.
use Rattle.ffv1_weave.proofs.Common.{◌≡◌, ℕ, zero, suc, ◌+◌, ◌-◌, ◌<◌, ◌≤◌, List, length, get_or, refl, sym, ◌∙◌, subst, arith, inl, inr, rules, Contains, slice_range, cases_lt, get_or_default, get_or_past, AgreeAt, DifferAt, IsSegment, IsChoiceOf, IsChoiceBy, splits, IsCombinationBy, IsCombination, HasFewByByte, IsTriedBy, IsAmongTried, IsValid, Weave, IsWeaveOf, AreFew, woven, disputed, missing, too_many, KeepsOriginal, OriginalIsWoven, IsCoveredByRegions, CoveredIsCombination, HasEachByte, AreAmongTried, Split, Pairs, Regions}
use Rattle.ffv1_weave.proofs.Agreeing.{some_differ}
use Rattle.ffv1_weave.proofs.BoundarySteps.{boundary_before, boundary_after, segment_within}
use Rattle.ffv1_weave.proofs.Choices.{same_range}
use Rattle.ffv1_weave.proofs.Tried.{one_split, tried_split, valid_by}
use Rattle.ffv1_weave.proofs.Coarsest.{segment_version, regions_are_coarsest}

-- by each split that is tried what some version has in a part is taken there
taken_by : (versions : List (List ℕ)) (start end : ℕ) (choice : List ℕ) → IsChoiceOf versions start end choice → (k : ℕ) → k < length splits
    → IsChoiceBy (get_or splits k Regions) versions start end choice
taken_by versions start end choice of zero lt = of
taken_by versions start end choice of (suc zero) lt = of
taken_by versions start end choice of (suc (suc zero)) lt = of
taken_by versions start end choice of (suc (suc (suc zero))) lt = of
taken_by versions start end choice of (suc (suc (suc (suc zero)))) lt = of
taken_by versions start end choice of (suc (suc (suc (suc (suc k))))) lt = absurd (omega arith)

pub covered_is_combination : CoveredIsCombination
covered_is_combination split original versions there h = grind (arith, get_or_default, taken_by)

pub regions_combine : (original : List ℕ) (versions : List (List ℕ)) → IsCoveredByRegions original versions → IsCombination versions original
regions_combine original versions h = covered_is_combination Regions original versions (4, omega arith, refl) h

by_split : (versions : List (List ℕ)) (split : Split) (count : ℕ) (bytes : List ℕ) → IsTriedBy versions split count → IsCombinationBy split versions bytes
    → IsAmongTried versions bytes
by_split versions split count bytes tried is other more also =
    subst (λ g. IsCombinationBy g versions bytes) (one_split versions split other count more tried also) is

-- ---- each byte intact in some version

module _ (original : List ℕ) (versions : List (List ℕ)) (has : HasEachByte original versions) where
  -- where the versions agree they have the original's byte
  right_at : (i : ℕ) → AgreeAt versions i → (version : List ℕ) → Contains versions version → get_or original i 0 ≡ get_or version i 0
  right_at i agree version there = elim (cases_lt i (length original)) [
    | inl inside ↦ let intact = has.intact i inside in sym intact.2 ∙ agree intact.0 version intact.1 there
    | inr past ↦ get_or_past original i 0 past ∙ sym (get_or_past version i 0 (omega (arith, has.one_length version there)))
  ]

  same_between : (start end : ℕ) → end ≤ length original → (version : List ℕ) → Contains versions version
      → ((i : ℕ) → start ≤ i → i < end → get_or original i 0 ≡ get_or version i 0) → IsChoiceOf versions start end (slice_range original start end)
  same_between start end within version there same = grind (arith, same_range)

  -- a place at which versions differ is a segment at distance 0
  alone : (start end place : ℕ) → IsSegment 0 versions start end → start ≤ place → place < end → DifferAt versions place → (place ≡ start) × (end ≡ place + 1)
  alone start end place segment low lt differ = (
    elim (cases_lt start place) [
      | inr at ↦ omega arith
      | inl after ↦ absurd (segment.within place after lt (boundary_before 0 versions place differ (λ i before near. absurd (omega arith))))
    ],
    elim (cases_lt (place + 1) end) [
      | inr at ↦ omega arith
      | inl before ↦ absurd (segment.within (place + 1) (omega arith) before (boundary_after 0 versions place (place + 1) refl differ (λ i above near. absurd (omega arith))))
    ],
  )

  each_segment : (start end : ℕ) → IsSegment 0 versions start end → IsChoiceOf versions start end (slice_range original start end)
  each_segment start end segment =
      let within = segment_within 0 versions (length original) start end has.one_length segment in
      elim (some_differ versions start (end - start)) [
        | inl agree ↦
            let version = segment_version 0 versions start end segment in
            same_between start end within version.0 version.1 (λ i low lt. right_at i (agree i low (omega arith)) version.0 version.1)
        | inr found ↦
            let lt = found.2 in
            let one = alone start end found.0 segment found.1 (omega arith) found.3 in
            let first = one.0 in
            let last = one.1 in
            let intact = has.intact found.0 (omega arith) in
            same_between start end within intact.0 intact.1 (λ i low below. let here : found.0 ≡ i = omega arith in rw (← here) (sym intact.2))
      ]

  pub bytes_combine : IsCombinationBy (Pairs 0) versions original
  bytes_combine = record { same_length = λ version there. sym (has.one_length version there); agrees = right_at; parts = each_segment }

  each_byte : (count : ℕ) → HasFewByByte versions count → IsAmongTried versions original
  each_byte count few =
      by_split versions (Pairs 0) count original
      (record { place = 0; there = omega arith; is = refl; finer = λ k lt. absurd (omega arith); few = few }) bytes_combine

pub are_among_tried : AreAmongTried
are_among_tried = search (rules, by_split, regions_are_coarsest, tried_split, covered_is_combination, each_byte)

-- ---- an original

pub original_is_woven : OriginalIsWoven
original_is_woven check original versions weave passes among h = kept weave h
  where
    valid : (count : ℕ) → AreFew versions count → IsValid check versions original
    valid count few =
        valid_by versions check few.split count few.tried original (among few.split count few.tried) passes

    kept : (weave : Weave) → IsWeaveOf check versions weave → KeepsOriginal original weave
    kept (woven bytes count) h = sym (h.0.others original (valid count h.1))
    kept disputed h = tt
    kept (missing count) h = h.0 original (valid count h.1)
    kept too_many h = tt
