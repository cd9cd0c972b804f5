-- Three versions of one slice of nine bytes. Each of its first three bytes is damaged in another version: at each distance the undamaged
-- slice is the only combination of what most versions have, and it is what they vote. Two versions vote nothing, also where one is there
-- twice.
use Rattle.ffv1_weave.proofs.Common.{◌≡◌, ℕ, zero, suc, ◌+◌, ◌<◌, ◌≤◌, List, [], ◌∷◌, length, get_or, refl, sym, ap, subst, arith, inl, inr, rules, ◌⊎◌, All, Contains, slice_range, cases_lt, HaveLength, AgreeAt, IsBoundary, IsMost, votes, IsCombinationBy, HasFew, Part, AreChoicesBy, IsPartFrom, AreFewParts, IsFit, AreThree, AreTriedBy, IsVoteOf, Split, Regions, Most}
use Rattle.ffv1_weave.proofs.Agreeing.{agree_from}
use Rattle.ffv1_weave.proofs.ChoiceSteps.{alone}
use Rattle.ffv1_weave.proofs.MostSteps.{choices_fit}
use Rattle.ffv1_weave.proofs.BoundarySteps.{boundary_of}
use Rattle.ffv1_weave.proofs.ThreeVersions.{of_each, votes_of, is_most, is_not_most}
use Rattle.ffv1_weave.proofs.Finest.{has_few}
use Rattle.ffv1_weave.proofs.WeaveSteps.{HaveFewParts, chosen_where}
use Rattle.ffv1_weave.proofs.VoteLaws.{vote_of_as}
use Rattle.ffv1_weave.proofs.VoteSteps.{no_vote_of_two}
use Rattle.ffv1_weave.proofs.RepairVectors.{small_slice, small_passes}

abbrev original : List ℕ
original = 0x5A ∷ 0x00 ∷ 0x00 ∷ 0x01 ∷ 0x00 ∷ 0x84 ∷ 0xF2 ∷ 0x04 ∷ 0x92 ∷ []

abbrev one : List ℕ
one = 0x5B ∷ 0x00 ∷ 0x00 ∷ 0x01 ∷ 0x00 ∷ 0x84 ∷ 0xF2 ∷ 0x04 ∷ 0x92 ∷ []

abbrev other : List ℕ
other = 0x5A ∷ 0x01 ∷ 0x00 ∷ 0x01 ∷ 0x00 ∷ 0x84 ∷ 0xF2 ∷ 0x04 ∷ 0x92 ∷ []

abbrev third : List ℕ
third = 0x5A ∷ 0x00 ∷ 0x01 ∷ 0x01 ∷ 0x00 ∷ 0x84 ∷ 0xF2 ∷ 0x04 ∷ 0x92 ∷ []

abbrev pub three : List (List ℕ)
three = one ∷ other ∷ third ∷ []

one_there : Contains three one
one_there = (0, omega arith, refl)

other_there : Contains three other
other_there = (1, omega arith, refl)

third_there : Contains three third
third_there = (2, omega arith, refl)

one_other : one ≡ other → ⊥
one_other same = let e = ap (λ z. get_or z 0 0) same in absurd (omega arith)

one_third : one ≡ third → ⊥
one_third same = let e = ap (λ z. get_or z 0 0) same in absurd (omega arith)

other_third : other ≡ third → ⊥
other_third same = let e = ap (λ z. get_or z 1 0) same in absurd (omega arith)

long : HaveLength three 9
long = of_each one other third (λ version. length version ≡ 9) refl refl refl

rest_agrees : (i : ℕ) → 3 ≤ i → AgreeAt three i
rest_agrees zero low = absurd (omega arith)
rest_agrees (suc zero) low = absurd (omega arith)
rest_agrees (suc (suc zero)) low = absurd (omega arith)
rest_agrees (suc (suc (suc i))) low = agree_from three (suc (suc (suc i))) same
  where
    same : (k : ℕ) → k < 3 → get_or (get_or three k []) (suc (suc (suc i))) 0 ≡ get_or one (suc (suc (suc i))) 0
    same zero lt = refl
    same (suc zero) lt = refl
    same (suc (suc zero)) lt = refl
    same (suc (suc (suc k))) lt = absurd (omega arith)

-- ---- the segments, which are the same at each distance

module _ (distance : ℕ) where
  -- the second and the third version differ from the second byte on
  boundary_one : IsBoundary distance three 1
  boundary_one = boundary_of distance three 1 other third other_there third_there (inl (record { differ = λ same. absurd (omega arith); before = before }))
    where
      before : (i : ℕ) → i < 1 → 1 ≤ i + distance → get_or other i 0 ≡ get_or third i 0
      before zero lt near = refl
      before (suc i) lt near = absurd (omega arith)

  -- two versions that are the same after a place where they differ
  boundary_past : (last : ℕ) (a b : List ℕ) → Contains three a → Contains three b → (get_or a last 0 ≡ get_or b last 0 → ⊥)
      → ((i : ℕ) → last < i → get_or a i 0 ≡ get_or b i 0) → IsBoundary distance three (last + 1)
  boundary_past last a b there here apart same =
      boundary_of distance three (last + 1) a b there here
      (inr (record { last = last; next = refl; differ = apart; after = λ i low lt. same i (omega arith) }))

  -- the first and the second version differ up to the third byte
  boundary_two : IsBoundary distance three 2
  boundary_two = boundary_past 1 one other one_there other_there (λ same. absurd (omega arith)) (λ i low. elim (cases_lt 2 i) [
    | inl past ↦ rest_agrees i past one other one_there other_there
    | inr here ↦ let is : 2 ≡ i = omega arith in subst (λ n. get_or one n 0 ≡ get_or other n 0) is refl
  ])

  -- the first and the third version differ up to the fourth
  boundary_three : IsBoundary distance three 3
  boundary_three =
      boundary_past 2 one third one_there third_there (λ same. absurd (omega arith)) (λ i low. rest_agrees i low one third one_there third_there)

  next : (start : ℕ) → (start ≡ 0) ⊎ IsBoundary distance three start → IsBoundary distance three (start + 1) → IsPartFrom (Most distance) three start start (start + 1)
  next start first last = grind arith

-- ---- what most have: at each of the three places two versions have the byte of the original, and one has another

module _ (place : ℕ) where
  -- how many have a byte
  abbrev votes_for : List ℕ → ℕ
  votes_for choice = votes_of one other third one_other one_third other_third place (place + 1) choice

  -- a version has the one or the other
  abbrev HasEither : List ℕ → List ℕ → List ℕ → Type 0
  HasEither right wrong version = (right ≡ slice_range version place (place + 1)) ⊎ (wrong ≡ slice_range version place (place + 1))

module _ (place : ℕ) (right wrong : List ℕ) (two : votes_for place right ≡ 2) (single : votes_for place wrong ≡ 1)
    (some : (version : List ℕ) × Contains three version × (right ≡ slice_range version place (place + 1))) (first : HasEither place right wrong one)
    (second : HasEither place right wrong other) (last : HasEither place right wrong third) where
  either : (version : List ℕ) → Contains three version → HasEither place right wrong version
  either = of_each one other third (HasEither place right wrong) first second last

  no_more : (version : List ℕ) → HasEither place right wrong version → votes_for place (slice_range version place (place + 1)) ≤ votes_for place right
  no_more version (inl is) = omega (arith, ap (votes_for place) is)
  no_more version (inr is) = omega (arith, ap (votes_for place) is)

  right_is_most : IsMost three place (place + 1) right
  right_is_most = grind (arith, is_most, one_other, one_third, other_third, no_more)

  wrong_is_not : IsMost three place (place + 1) wrong → ⊥
  wrong_is_not = is_not_most one other third one_other one_third other_third place (place + 1) wrong right (omega arith)

  -- so the byte of the original alone can be taken
  taken : (distance : ℕ) → AreChoicesBy (Most distance) three place (place + 1) (right ∷ [])
  taken distance = grind (arith, either, wrong_is_not, right_is_most)

-- ---- one combination at each distance

abbrev parts : List Part
parts =
    record { start = 0; end = 1; choices = (0x5A ∷ []) ∷ [] } ∷ record { start = 1; end = 2; choices = (0x00 ∷ []) ∷ [] }
    ∷ record { start = 2; end = 3; choices = (0x00 ∷ []) ∷ [] } ∷ []

module _ (distance : ℕ) where
  first_taken : AreChoicesBy (Most distance) three 0 1 ((0x5A ∷ []) ∷ [])
  first_taken = taken 0 (0x5A ∷ []) (0x5B ∷ []) refl refl (other, other_there, refl) (inr refl) (inl refl) (inl refl) distance

  second_taken : AreChoicesBy (Most distance) three 1 2 ((0x00 ∷ []) ∷ [])
  second_taken = taken 1 (0x00 ∷ []) (0x01 ∷ []) refl refl (one, one_there, refl) (inl refl) (inr refl) (inl refl) distance

  third_taken : AreChoicesBy (Most distance) three 2 3 ((0x00 ∷ []) ∷ [])
  third_taken = taken 2 (0x00 ∷ []) (0x01 ∷ []) refl refl (one, one_there, refl) (inl refl) (inl refl) (inr refl) distance

  fit : All (IsFit 9) parts
  fit zero d lt = choices_fit (Most distance) 0 1 three ((0x5A ∷ []) ∷ []) 9 long (omega arith) (omega arith) (omega arith) first_taken
  fit (suc zero) d lt = choices_fit (Most distance) 1 2 three ((0x00 ∷ []) ∷ []) 9 long (omega arith) (omega arith) (omega arith) second_taken
  fit (suc (suc zero)) d lt = choices_fit (Most distance) 2 3 three ((0x00 ∷ []) ∷ []) 9 long (omega arith) (omega arith) (omega arith) third_taken
  fit (suc (suc (suc k))) d lt = absurd (omega arith)

  few_parts : AreFewParts (Most distance) three 9 parts 1
  few_parts =
      record {
        all = record {
          next = (
            next distance 0 (inl refl) (boundary_one distance),
            first_taken,
            (
              next distance 1 (inr (boundary_one distance)) (boundary_two distance),
              second_taken,
              (next distance 2 (inr (boundary_two distance)) (boundary_three distance), third_taken, tt),
            ),
          );
          rest = rest_agrees;
        };
        fit = fit;
        counted = refl;
        few = omega arith;
      }

  has_one : HasFew three (Most distance) 1
  has_one = has_few (Most distance) three 9 long (omega arith) parts 1 few_parts

  have_parts : HaveFewParts (Most distance) three parts 1
  have_parts = record { some = omega arith; long = long; few = few_parts }

  -- It is the original, and no other.
  original_is_combination : IsCombinationBy (Most distance) three original
  original_is_combination = (chosen_where have_parts original).0 (0, omega arith, refl)

  only_combination : (bytes : List ℕ) → IsCombinationBy (Most distance) three bytes → bytes ≡ original
  only_combination bytes h = alone original bytes ((chosen_where have_parts bytes).1 h)

-- ---- the vote

three_differ : AreThree three
three_differ = search (rules, one_there, other_there, third_there, one_other, one_third, other_third)

-- The original is voted, of one combination at each of the four distances.
pub original_voted : IsVoteOf three small_slice 4
unfolding small_slice
original_voted =
    record {
      only = record {
        there = record {
          three = three_differ;
          split = Most 0;
          there = (0, omega arith, refl);
          count = 1;
          few = has_one 0;
          combination = original_is_combination 0;
          passes = small_passes;
        };
        others = λ bytes vote. only_one vote.split bytes vote.there vote.combination;
      };
      tried = 1 ∷ 1 ∷ 1 ∷ 1 ∷ [];
      all = refl;
      each = each;
      counted = refl;
    }
  where
    only_one : (split : Split) (bytes : List ℕ) → Contains votes split → IsCombinationBy split three bytes → bytes ≡ original
    only_one split bytes (zero, lt, is) h = only_combination 0 bytes (subst (λ g. IsCombinationBy g three bytes) (sym is) h)
    only_one split bytes (suc zero, lt, is) h = only_combination 2 bytes (subst (λ g. IsCombinationBy g three bytes) (sym is) h)
    only_one split bytes (suc (suc zero), lt, is) h = only_combination 8 bytes (subst (λ g. IsCombinationBy g three bytes) (sym is) h)
    only_one split bytes (suc (suc (suc zero)), lt, is) h = only_combination 64 bytes (subst (λ g. IsCombinationBy g three bytes) (sym is) h)
    only_one split bytes (suc (suc (suc (suc k))), lt, is) h = absurd (omega arith)

    each : (k : ℕ) → k < 4 → AreTriedBy three (get_or votes k Regions) (get_or (1 ∷ 1 ∷ 1 ∷ 1 ∷ []) k 0)
    each zero lt = inl (has_one 0)
    each (suc zero) lt = inl (has_one 2)
    each (suc (suc zero)) lt = inl (has_one 8)
    each (suc (suc (suc zero))) lt = inl (has_one 64)
    each (suc (suc (suc (suc k)))) lt = absurd (omega arith)

-- ---- two versions

-- One that is there twice counts once.
pub twice_is_once : (bytes : List ℕ) (count : ℕ) → IsVoteOf (one ∷ other ∷ one ∷ []) bytes count → ⊥
twice_is_once bytes count vote = grind (arith, no_vote_of_two, vote_of_as)
