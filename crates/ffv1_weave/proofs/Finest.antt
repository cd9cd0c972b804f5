-- The parts of a split, as they are looked for while there are few enough combinations.
use Rattle.ffv1_weave.proofs.Common.{◌≡◌, ℕ, ◌*◌, ◌/◌, ◌<◌, ◌≤◌, List, [], ◌∷◌, ◌++◌, length, get_or, sym, ap, ◌∙◌, subst, arith, All, All-push, Contains-get_or, HaveLength, splits, HasFew, HasMany, Part, AreChoicesBy, IsEdge, IsPartFrom, ArePartsFrom, AreFewParts, AreTriedParts, IsFit, parts_end, count_of, Split, Regions}
use Rattle.ffv1_weave.specs.declared.weaving.TheConstants.{MOST_COMBINATIONS}
use Rattle.ffv1_weave.proofs.SplitSteps.{part_some}
use Rattle.ffv1_weave.proofs.MostSteps.{choices_fit}
use Rattle.ffv1_weave.proofs.PartSteps.{parts_end_push, parts_push, count_push, count_over, count_fits, count_positive}
use Rattle.ffv1_weave.proofs.Choices.{fit_as, many_chosen, numbered}

-- The parts so far, which end where the next is looked for, have so many combinations.
pub record ArePartsSoFar (split : Split) (versions : List (List ℕ)) (size from : ℕ) (parts : List Part) (count : ℕ) : Type 0 where
  pub within : from ≤ size
  pub edge : IsEdge split versions from
  pub after : ArePartsFrom split versions 0 parts
  pub ends : parts_end 0 parts ≡ from
  pub fit : All (IsFit size) parts
  pub some : 0 < count
  pub counted : count ≡ count_of parts
  pub few : count ≤ MOST_COMBINATIONS

module _ (split : Split) (versions : List (List ℕ)) (size : ℕ) (long : HaveLength versions size) (some : 0 < length versions) where
  module _ (from : ℕ) (parts : List Part) (count : ℕ) (h : ArePartsSoFar split versions size from parts count)
      (part : Part) (next : IsPartFrom split versions from part.start part.end) (within : part.end ≤ size)
      (choices : AreChoicesBy split versions part.start part.end part.choices) where
    more_after : ArePartsFrom split versions 0 (parts ++ part ∷ [])
    more_after = grind (arith, parts_push)

    part_fits : IsFit size part
    part_fits =
        let order = part_some split versions part.start part.end next.part in
        choices_fit split part.start part.end versions part.choices size long some (omega arith) within choices

    more_fit : All (IsFit size) (parts ++ part ∷ [])
    more_fit = All-push (IsFit size) parts part h.fit part_fits

    more_counted : count * length part.choices ≡ count_of (parts ++ part ∷ [])
    more_counted = ap (λ n. n * length part.choices) h.counted ∙ sym (count_push parts part)

    pub one_more : length part.choices ≤ MOST_COMBINATIONS / count
        → ArePartsSoFar split versions size part.end (parts ++ part ∷ []) (count * length part.choices)
    one_more few = grind (arith, more_after, parts_end_push, more_fit, count_positive, part_fits, more_counted, count_fits)

    -- with the choices of this part there are too many, whatever follows
    pub too_many_more : MOST_COMBINATIONS / count < length part.choices → HasMany versions split
    too_many_more over =
        let first : List ℕ = get_or versions 0 [] in
        let there = Contains-get_or versions 0 [] some in
        let size_is : length first ≡ size = long first there in
        many_chosen split versions first (subst (HaveLength versions) (sym size_is) long) there (parts ++ part ∷ []) MOST_COMBINATIONS more_after
        (fit_as (length first) size (parts ++ part ∷ []) size_is more_fit)
        (subst (λ n. MOST_COMBINATIONS < n) more_counted (count_over count (length part.choices) MOST_COMBINATIONS h.some over))

  -- ---- the finest split by which there are few enough

  pub has_few : (parts : List Part) (count : ℕ) → AreFewParts split versions size parts count → HasFew versions split count
  has_few parts count few =
      let first : List ℕ = get_or versions 0 [] in
      let there = Contains-get_or versions 0 [] some in
      let size_is : length first ≡ size = long first there in
      let all = numbered split versions parts first (rw size_is long) there few.all (fit_as (length first) size parts size_is few.fit) in
      record { numbered = rw few.counted all; few = few.few }

  pub finest : (place : ℕ) (parts : List Part) (count : ℕ) → place < length splits → get_or splits place Regions ≡ split
      → ((k : ℕ) → k < place → HasMany versions (get_or splits k Regions)) → AreFewParts split versions size parts count
      → AreTriedParts versions size parts count
  finest place parts count there is finer few = grind (arith, has_few)
