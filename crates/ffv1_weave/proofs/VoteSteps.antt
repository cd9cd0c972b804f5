-- The votes as they are gone over: split by split.
use Rattle.ffv1_weave.proofs.Common.{◌≡◌, ℕ, ◌+◌, ◌*◌, ◌<◌, ◌≤◌, List, [], ◌∷◌, ◌++◌, length, get_or, Option, refl, sym, ap, ◌∙◌, subst, arith, inl, inr, rules, ◌↔◌, Contains, MatchOption, sum, cases_lt, get_or_default, get_or_append_left, get_or_push, length_push, Contains-get_or, Contains-append_left, Contains-append_right, Contains-append_cases, sum_by_push, IsOnly, IsOfTwo, IsOfNone, votes, IsCombinationBy, HasFew, HasMany, Part, AreDistinct, AreFewParts, chosen_below, PassesAmong, IsFoundAmong, AreThree, AreTriedBy, IsVote, IsVoteOf, Slice, Found, Split, Regions, Parts}
use Rattle.ffv1_weave.specs.declared.weaving.TheConstants.{MOST_COMBINATIONS}
use Rattle.ffv1_weave.specs.declared.found.Found.TheVariants as found
use Rattle.ffv1_weave.proofs.Finest.{has_few}
use Rattle.ffv1_weave.proofs.FoundSteps.{only_as}
use Rattle.ffv1_weave.proofs.Tried.{few_or_many}
use Rattle.ffv1_weave.proofs.WeaveSteps.{HaveFewParts, chosen_where}

-- ---- how many versions differ

pub three_of_distinct : (versions : List (List ℕ)) → 3 ≤ length versions → AreDistinct versions → AreThree versions
three_of_distinct versions three distinct =
    record {
      one = get_or versions 0 [];
      other = get_or versions 1 [];
      third = get_or versions 2 [];
      one_there = Contains-get_or versions 0 [] (omega arith);
      other_there = Contains-get_or versions 1 [] (omega arith);
      third_there = Contains-get_or versions 2 [] (omega arith);
      one_other = λ same. let is = distinct 0 1 (omega arith) (omega arith) same in omega arith;
      one_third = λ same. let is = distinct 0 2 (omega arith) (omega arith) same in omega arith;
      other_third = λ same. let is = distinct 1 2 (omega arith) (omega arith) same in omega arith;
    }

-- Two versions never vote: of fewer than three there are no three that differ.
pub not_three : (versions : List (List ℕ)) → length versions < 3 → AreThree versions → ⊥
not_three versions few h = grind (arith, get_or_default)

pub no_vote_of_two : (versions : List (List ℕ)) → length versions < 3 → (bytes : List ℕ) (count : ℕ) → IsVoteOf versions bytes count → ⊥
no_vote_of_two versions few bytes count h = not_three versions few h.only.there.three

-- ---- the votes by the splits so far

-- the parts by a split, as the code has them: none where there are too many combinations
abbrev pub ArePartsBy : Split → List (List ℕ) → ℕ → Option Parts → Type 0
ArePartsBy split versions size found =
    MatchOption found (HasMany versions split) (λ few. AreFewParts split versions size few.parts.items few.count)

-- A combination by one of the first splits, by which there are few enough.
pub record IsTriedBefore (versions : List (List ℕ)) (place : ℕ) (bytes : List ℕ) : Type 0 where
  pub at : ℕ
  pub below : at < place
  pub count : ℕ
  pub few : HasFew versions (get_or votes at Regions) count
  pub combination : IsCombinationBy (get_or votes at Regions) versions bytes

-- How many are tried by each of the first splits, and what is found among all of them.
pub record AreTriedBefore (versions : List (List ℕ)) (place : ℕ) (what : Found) (count : ℕ) : Type 0 where
  pub tried : List ℕ
  pub long : length tried ≡ place
  pub each : (k : ℕ) → k < place → AreTriedBy versions (get_or votes k Regions) (get_or tried k 0)
  pub counted : count ≡ sum tried
  pub within : count ≤ place * MOST_COMBINATIONS
  pub strings : List (List ℕ)
  pub are : (bytes : List ℕ) → Contains strings bytes ↔ IsTriedBefore versions place bytes
  pub found : IsFoundAmong Slice strings what

pub none_before : (versions : List (List ℕ)) → AreTriedBefore versions 0 found.Nothing 0
none_before versions =
    record {
      tried = [];
      long = refl;
      each = λ k lt. absurd (omega arith);
      counted = refl;
      within = omega arith;
      strings = [];
      are = grind arith;
      found = λ bytes passing. let none = passing.there.1 in absurd (omega arith);
    }

module _ (versions : List (List ℕ)) (place : ℕ) (what : Found) (count : ℕ) (h : AreTriedBefore versions place what count) where
  -- one more split, by which so many are tried
  each_more : (more : ℕ) → AreTriedBy versions (get_or votes place Regions) more → (k : ℕ) → k < place + 1
      → AreTriedBy versions (get_or votes k Regions) (get_or (h.tried ++ more ∷ []) k 0)
  each_more more last k lt = grind (arith, cases_lt, get_or_append_left, get_or_push)

  counted_more : (more : ℕ) → count + more ≡ sum (h.tried ++ more ∷ [])
  counted_more more = ap (λ n. n + more) h.counted ∙ sym (sum_by_push (λ n. n) h.tried more)

  later : (bytes : List ℕ) → IsTriedBefore versions place bytes → IsTriedBefore versions (place + 1) bytes
  later bytes is = grind arith

  -- by the next split there are too many
  pub many_more : HasMany versions (get_or votes place Regions) → AreTriedBefore versions (place + 1) what count
  many_more many =
      record {
        tried = h.tried ++ 0 ∷ [];
        long = length_push h.tried 0 ∙ ap (λ n. n + 1) h.long;
        each = each_more 0 (inr (many, refl));
        counted = (let none : count ≡ count + 0 = omega arith in none) ∙ counted_more 0;
        within = let within = h.within in omega arith;
        strings = h.strings;
        are = λ bytes. (λ there. later bytes ((h.are bytes).0 there), λ is. (h.are bytes).1 (earlier bytes is));
        found = h.found;
      }
    where
      earlier : (bytes : List ℕ) → IsTriedBefore versions (place + 1) bytes → IsTriedBefore versions place bytes
      earlier bytes is = elim (cases_lt is.at place) [
        | inl below ↦ record { at = is.at; below = below; count = is.count; few = is.few; combination = is.combination }
        | inr above ↦ let low = is.below in
            let same : is.at ≡ place = omega arith in
            absurd (few_or_many versions (get_or votes place Regions) is.count
            (subst (λ i. HasFew versions (get_or votes i Regions) is.count) same is.few) many)
      ]

  module _ (parts : List Part) (more : ℕ) (have : HaveFewParts (get_or votes place Regions) versions parts more) where
    next_few : HasFew versions (get_or votes place Regions) more
    next_few = search (rules, has_few)

    abbrev all_strings : List (List ℕ)
    all_strings = chosen_below parts (get_or versions 0 []) more ++ h.strings

    are_more : (bytes : List ℕ) → Contains all_strings bytes → IsTriedBefore versions (place + 1) bytes
    are_more bytes there = elim (Contains-append_cases (chosen_below parts (get_or versions 0 []) more) h.strings bytes there) [
      | inl next ↦ record {
        at = place;
        below = omega arith;
        count = more;
        few = next_few;
        combination = (chosen_where have bytes).0 next;
      }
      | inr before ↦ later bytes ((h.are bytes).0 before)
    ]

    there_more : (bytes : List ℕ) → IsTriedBefore versions (place + 1) bytes → Contains all_strings bytes
    there_more bytes is = elim (cases_lt is.at place) [
      | inl below ↦ Contains-append_right (chosen_below parts (get_or versions 0 []) more) h.strings bytes ((h.are bytes).1
          (record { at = is.at; below = below; count = is.count; few = is.few; combination = is.combination }))
      | inr above ↦ let low = is.below in
          let same : is.at ≡ place = omega arith in
          Contains-append_left (chosen_below parts (get_or versions 0 []) more) h.strings bytes ((chosen_where have bytes).1 (rw (← same) is.combination))
    ]

    -- by the next split there are few enough, and they are tried too
    pub few_more : (now : Found) → ((others : List (List ℕ)) → IsFoundAmong Slice others what
        → IsFoundAmong Slice (chosen_below parts (get_or versions 0 []) more ++ others) now)
        → AreTriedBefore versions (place + 1) now (count + more)
    few_more now found_now =
        record {
          tried = h.tried ++ more ∷ [];
          long = length_push h.tried more ∙ ap (λ n. n + 1) h.long;
          each = each_more more (inl next_few);
          counted = counted_more more;
          within = let within = h.within in let few = have.few.few in omega arith;
          strings = all_strings;
          are = λ bytes. (are_more bytes, there_more bytes);
          found = found_now h.strings h.found;
        }

-- ---- the vote of all splits

module _ (versions : List (List ℕ)) (three : AreThree versions) (place : ℕ) (all : place ≡ length votes) (what : Found) (count : ℕ)
    (h : AreTriedBefore versions place what count) where
  is_vote : (bytes : List ℕ) → PassesAmong Slice h.strings bytes → IsVote versions bytes
  is_vote bytes passing =
      let is = (h.are bytes).0 passing.there in
      grind (arith, Contains-get_or)

  is_passing : (bytes : List ℕ) → IsVote versions bytes → PassesAmong Slice h.strings bytes
  is_passing bytes vote =
      let split_is : get_or votes vote.there.0 Regions ≡ vote.split = cc (get_or_default votes vote.there.0 Regions vote.split vote.there.1) in
      record {
        there = (h.are bytes).1 (record {
          at = vote.there.0;
          below = let low = vote.there.1 in omega arith;
          count = vote.count;
          few = subst (λ split. HasFew versions split vote.count) (sym split_is) vote.few;
          combination = subst (λ split. IsCombinationBy split versions bytes) (sym split_is) vote.combination;
        });
        passes = vote.passes;
      }

  -- one alone is found
  pub one_voted : (bytes : List ℕ) → IsOnly (PassesAmong Slice h.strings) bytes → IsVoteOf versions bytes count
  one_voted bytes only =
      record {
        only = only_as (PassesAmong Slice h.strings) (IsVote versions) is_vote is_passing bytes only;
        tried = h.tried;
        all = h.long ∙ all;
        each = λ k lt. h.each k (omega (arith, all));
        counted = h.counted;
      }

  -- none is found, or two are that differ
  pub none_voted : IsOfNone (PassesAmong Slice h.strings) → (bytes : List ℕ) (tried : ℕ) → IsVoteOf versions bytes tried → ⊥
  none_voted none bytes tried vote = none bytes (is_passing bytes vote.only.there)

  pub two_voted : IsOfTwo (PassesAmong Slice h.strings) → (bytes : List ℕ) (tried : ℕ) → IsVoteOf versions bytes tried → ⊥
  two_voted two bytes tried vote =
      two.differ (vote.only.others two.one (is_vote two.one two.one_there) ∙ sym (vote.only.others two.other (is_vote two.other two.other_there)))
