-- The ends that copies claim of the slice with which they begin.
use Rattle.ffv1_splice.proofs.Common.{◌≡◌, ℕ, ◌+◌, ◌-◌, ◌^◌, ◌<◌, ◌≤◌, Option, Some, None, min, List, [], ◌∷◌, ◌++◌, take, drop, subst, arith, inl, inr, take-append-drop, ◌⊎◌, Contains, MatchOption, cases_lt, Contains-append_left, Contains-append_right, Contains-append_cases, slice_limit, AreBytes, FooterGives, IsOnly, IsOfTwo, IsOfNone, HasContent, IsClaimedEnd, LacksClaims, IsFirstClaim, IsNextClaimed, Tally, Tallies, TalliesBoth, alone, two_as}
use Rattle.ffv1_splice.proofs.TallySteps.{tallies_both}
use Rattle.ffv1_splice.proofs.ShortestSteps.{cut_is_short}

-- ---- one copy

module _ (copy : List ℕ) (reach : ℕ) where
  pub claimed_of_cut : (end : ℕ) → FooterGives copy 0 end → 8 < end → end ≤ reach → IsClaimedEnd (copy ∷ []) reach end
  claimed_of_cut end cut content within = grind arith

  pub cut_of_claimed : (end : ℕ) → IsClaimedEnd (copy ∷ []) reach end → FooterGives copy 0 end
  cut_of_claimed end h = subst (λ c. FooterGives c 0 end) (alone copy h.claim.copy h.claim.there) h.claim.cut

  -- where no end up to a place is claimed, and the search went as far as one can be, none is
  pub none_claimed : (from place : ℕ) → AreBytes copy → ((end : ℕ) → from < end → end ≤ place → FooterGives copy 0 end → ⊥)
      → ((end : ℕ) → place < end → end ≤ reach → end ≤ slice_limit → ⊥) → (end : ℕ) → from < end → IsClaimedEnd (copy ∷ []) reach end → ⊥
  none_claimed from place small none far end after h =
      let cut = cut_of_claimed end h in
      let short = cut_is_short copy 0 end small cut in
      none end after (elim (cases_lt place end) [ inl beyond ↦ absurd (far end beyond h.within (omega arith)) | inr up ↦ up ]) cut

  -- the first of them
  pub next_claimed : (from end : ℕ) → ((other : ℕ) → from < other → other < end → FooterGives copy 0 other → ⊥) → FooterGives copy 0 end → 8 < end → from < end
      → end ≤ reach → IsNextClaimed copy from reach end
  next_claimed from end none cut content after within = grind (arith, claimed_of_cut, cases_lt, cut_of_claimed)

  -- what the search for the start of the copy found
  pub found_claim : (r : Option ℕ) (from next last : ℕ) → AreBytes copy → 8 ≤ from → next ≡ min (from + 1) (2 ^ 64 - 1) → last ≡ min reach slice_limit
      → MatchOption r (LacksClaims copy 0 next (last + 1)) (IsFirstClaim copy 0 next last)
      → MatchOption r ((end : ℕ) → from < end → IsClaimedEnd (copy ∷ []) reach end → ⊥) (IsNextClaimed copy from reach)
  found_claim None from next last small room is most none =
      none_claimed from last small (λ end after within cut. none end (omega arith) (omega arith) cut) (λ end beyond within short. omega arith)
  found_claim (Some end) from next last small room is most first = grind (arith, next_claimed)

  claimed_after_footer : (end : ℕ) → IsClaimedEnd (copy ∷ []) reach end → 8 < end
  claimed_after_footer end h = let content : HasContent 0 end = h.claim.content in omega arith

  pub no_claimed : ((end : ℕ) → 8 < end → IsClaimedEnd (copy ∷ []) reach end → ⊥) → IsOfNone (IsClaimedEnd (copy ∷ []) reach)
  no_claimed none end h = none end (claimed_after_footer end h) h

  -- the first, with none after it, is the only one
  pub only_claimed : (first : ℕ) → IsNextClaimed copy 8 reach first → ((end : ℕ) → first < end → IsClaimedEnd (copy ∷ []) reach end → ⊥)
      → IsOnly (IsClaimedEnd (copy ∷ []) reach) first
  only_claimed first next none =
      record {
        there = next.claimed;
        others = λ other h. elim (cases_lt first other) [
          | inl beyond ↦ absurd (none other beyond h)
          | inr up ↦ let least = next.first other (claimed_after_footer other h) h in omega arith
        ];
      }

-- ---- one copy more

module _ (copies : List (List ℕ)) (copy : List ℕ) (reach : ℕ) where
  claimed_left : (end : ℕ) → IsClaimedEnd copies reach end → IsClaimedEnd (copies ++ copy ∷ []) reach end
  claimed_left end h = grind (arith, Contains-append_left)

  claimed_right : (end : ℕ) → IsClaimedEnd (copy ∷ []) reach end → IsClaimedEnd (copies ++ copy ∷ []) reach end
  claimed_right end h = grind (arith, Contains-append_right)

  claimed_cases : (end : ℕ) → IsClaimedEnd (copies ++ copy ∷ []) reach end → IsClaimedEnd copies reach end ⊎ IsClaimedEnd (copy ∷ []) reach end
  claimed_cases end h =
      elim (Contains-append_cases copies (copy ∷ []) h.claim.copy h.claim.there) [
        | inl there ↦ inl (record { claim = record { copy = h.claim.copy; there = there; cut = h.claim.cut; content = h.claim.content }; within = h.within })
        | inr there ↦ inr (record { claim = record { copy = h.claim.copy; there = there; cut = h.claim.cut; content = h.claim.content }; within = h.within })
      ]

  pub ends_joined : (claim others after : Tally ℕ) → TalliesBoth claim others after → Tallies (IsClaimedEnd copies reach) claim
      → Tallies (IsClaimedEnd (copy ∷ []) reach) others → Tallies (IsClaimedEnd (copies ++ copy ∷ []) reach) after
  ends_joined claim others after both = grind (arith, tallies_both, claimed_left, claimed_right, claimed_cases)

-- two ends that some of the copies claim
pub two_of_first : (copies : List (List ℕ)) (count reach : ℕ) → IsOfTwo (IsClaimedEnd (take count copies) reach) → IsOfTwo (IsClaimedEnd copies reach)
two_of_first copies count reach = two_as (IsClaimedEnd (take count copies) reach) (IsClaimedEnd copies reach) on
  where
    on : (end : ℕ) → IsClaimedEnd (take count copies) reach end → IsClaimedEnd copies reach end
    on end h =
        record {
          claim = record {
            copy = h.claim.copy;
            there = subst (λ z. Contains z h.claim.copy) (take-append-drop count copies)
                (Contains-append_left (take count copies) (drop count copies) h.claim.copy h.claim.there);
            cut = h.claim.cut;
            content = h.claim.content;
          };
          within = h.within;
        }
