-- Three versions of three bytes, each damaged at another place: they are one region, but three segments at distance 0, so that the
-- undamaged bytes are a combination by segments alone.
use Rattle.ffv1_weave.proofs.Common.{◌≡◌, ℕ, zero, suc, ◌+◌, ◌<◌, List, [], ◌∷◌, length, get_or, refl, sym, ap, ◌∙◌, subst, arith, ◌⊎◌, All, Contains, slice_range, HaveLength, DifferAt, IsRegion, IsBoundary, IsSegment, PassesBy, IsCombinationBy, IsCombination, IsTriedBy, IsAmongTried, IsValid, Part, AreChoicesBy, IsPartFrom, AreAllParts, IsFit, Check, Pairs}
use Rattle.ffv1_weave.proofs.Agreeing.{agree_past, differ_from}
use Rattle.ffv1_weave.proofs.MostSteps.{choices_of_pairs}
use Rattle.ffv1_weave.proofs.BoundarySteps.{boundary_of}
use Rattle.ffv1_weave.proofs.Choices.{numbered}
use Rattle.ffv1_weave.proofs.Tried.{valid_by}
use Rattle.ffv1_weave.proofs.AmongTried.{are_among_tried}

pub three : List (List ℕ)
three = (2 ∷ 1 ∷ 1 ∷ []) ∷ (1 ∷ 2 ∷ 1 ∷ []) ∷ (1 ∷ 1 ∷ 2 ∷ []) ∷ []

-- what none of them has
pub undamaged : List ℕ
undamaged = 1 ∷ 1 ∷ 1 ∷ []

long : HaveLength three 3
unfolding three
long version (zero, lt, is) = ap length (sym is)
long version (suc zero, lt, is) = ap length (sym is)
long version (suc (suc zero), lt, is) = ap length (sym is)
long version (suc (suc (suc k)), lt, is) = absurd (omega arith)

first_there : Contains three (2 ∷ 1 ∷ 1 ∷ [])
unfolding three
first_there = (0, omega arith, refl)

second_there : Contains three (1 ∷ 2 ∷ 1 ∷ [])
unfolding three
second_there = (1, omega arith, refl)

third_there : Contains three (1 ∷ 1 ∷ 2 ∷ [])
unfolding three
third_there = (2, omega arith, refl)

-- ---- one region

differ : (i : ℕ) → i < 3 → DifferAt three i
unfolding three
differ zero lt = differ_from three 0 1 (omega arith) (λ same. absurd (omega arith))
differ (suc zero) lt = differ_from three 1 1 (omega arith) (λ same. absurd (omega arith))
differ (suc (suc zero)) lt = differ_from three 2 2 (omega arith) (λ same. absurd (omega arith))
differ (suc (suc (suc i))) lt = absurd (omega arith)

pub all_one_region : IsRegion three 0 3
all_one_region =
    record {
      some = omega arith;
      first = differ 0 (omega arith);
      last = differ 2 (omega arith);
      before = λ i lt near. absurd (omega arith);
      after = λ i low near. agree_past three 3 i long low;
      within = λ i low high here. (2, omega arith, omega arith, omega arith, differ 2 (omega arith));
    }

-- The undamaged bytes are no combination of regions.
pub no_combination_of_regions : IsCombination three undamaged → ⊥
unfolding three undamaged
no_combination_of_regions is = let version = is.parts 0 3 all_one_region in none version.0 version.1 version.2
  where
    none : (version : List ℕ) → Contains three version → slice_range (1 ∷ 1 ∷ 1 ∷ []) 0 3 ≡ slice_range version 0 3 → ⊥
    none version (zero, lt, is) same = let e = ap (λ z. get_or z 0 0) (same ∙ ap (λ z. slice_range z 0 3) (sym is)) in absurd (omega arith)
    none version (suc zero, lt, is) same = let e = ap (λ z. get_or z 1 0) (same ∙ ap (λ z. slice_range z 0 3) (sym is)) in absurd (omega arith)
    none version (suc (suc zero), lt, is) same = let e = ap (λ z. get_or z 2 0) (same ∙ ap (λ z. slice_range z 0 3) (sym is)) in absurd (omega arith)
    none version (suc (suc (suc k)), lt, is) same = absurd (omega arith)

-- ---- three segments

boundary_at : (place : ℕ) (one other : List ℕ) → Contains three one → Contains three other → (get_or one place 0 ≡ get_or other place 0 → ⊥)
    → IsBoundary 0 three place
boundary_at place one other there here apart = grind (arith, boundary_of, three, differ)

boundary_one : IsBoundary 0 three 1
boundary_one = boundary_at 1 (2 ∷ 1 ∷ 1 ∷ []) (1 ∷ 2 ∷ 1 ∷ []) first_there second_there (λ same. absurd (omega arith))

boundary_two : IsBoundary 0 three 2
boundary_two = boundary_at 2 (1 ∷ 2 ∷ 1 ∷ []) (1 ∷ 1 ∷ 2 ∷ []) second_there third_there (λ same. absurd (omega arith))

alone : (start : ℕ) → (start ≡ 0) ⊎ IsBoundary 0 three start
    → IsBoundary 0 three (start + 1) ⊎ ((version : List ℕ) × Contains three version × (start + 1 ≡ length version)) → IsSegment 0 three start (start + 1)
alone start first last = record { some = omega arith; first = first; last = last; within = λ i low lt boundary. absurd (omega arith) }

pub segments : IsSegment 0 three 0 1 × IsSegment 0 three 1 2 × IsSegment 0 three 2 3
segments = grind (arith, alone, boundary_one, boundary_two, first_there)

-- ---- eight combinations

-- at each place some version has 1 and some 2
abbrev two : List (List ℕ)
two = (1 ∷ []) ∷ (2 ∷ []) ∷ []

each_choice : (place : ℕ) → place < 3 → (version : List ℕ) → Contains three version → Contains two (slice_range version place (place + 1))
unfolding three
each_choice zero lt version (zero, low, is) = subst (λ v. Contains two (slice_range v 0 1)) is (1, omega arith, refl)
each_choice zero lt version (suc zero, low, is) = subst (λ v. Contains two (slice_range v 0 1)) is (0, omega arith, refl)
each_choice zero lt version (suc (suc zero), low, is) = subst (λ v. Contains two (slice_range v 0 1)) is (0, omega arith, refl)
each_choice (suc zero) lt version (zero, low, is) = subst (λ v. Contains two (slice_range v 1 2)) is (0, omega arith, refl)
each_choice (suc zero) lt version (suc zero, low, is) = subst (λ v. Contains two (slice_range v 1 2)) is (1, omega arith, refl)
each_choice (suc zero) lt version (suc (suc zero), low, is) = subst (λ v. Contains two (slice_range v 1 2)) is (0, omega arith, refl)
each_choice (suc (suc zero)) lt version (zero, low, is) = subst (λ v. Contains two (slice_range v 2 3)) is (0, omega arith, refl)
each_choice (suc (suc zero)) lt version (suc zero, low, is) = subst (λ v. Contains two (slice_range v 2 3)) is (0, omega arith, refl)
each_choice (suc (suc zero)) lt version (suc (suc zero), low, is) = subst (λ v. Contains two (slice_range v 2 3)) is (1, omega arith, refl)
each_choice (suc (suc (suc place))) lt version there = absurd (omega arith)
each_choice place lt version (suc (suc (suc k)), low, is) = absurd (omega arith)

only_choice : (place : ℕ) → place < 3 → (k : ℕ) → k < 2
    → (version : List ℕ) × Contains three version × (get_or two k [] ≡ slice_range version place (place + 1))
unfolding three
only_choice zero lt zero low = (1 ∷ 2 ∷ 1 ∷ [], second_there, refl)
only_choice zero lt (suc zero) low = (2 ∷ 1 ∷ 1 ∷ [], first_there, refl)
only_choice (suc zero) lt zero low = (2 ∷ 1 ∷ 1 ∷ [], first_there, refl)
only_choice (suc zero) lt (suc zero) low = (1 ∷ 2 ∷ 1 ∷ [], second_there, refl)
only_choice (suc (suc zero)) lt zero low = (2 ∷ 1 ∷ 1 ∷ [], first_there, refl)
only_choice (suc (suc zero)) lt (suc zero) low = (1 ∷ 1 ∷ 2 ∷ [], third_there, refl)
only_choice (suc (suc (suc place))) lt k low = absurd (omega arith)
only_choice place lt (suc (suc k)) low = absurd (omega arith)

one_choice : (j k : ℕ) → j < 2 → k < 2 → get_or two j [] ≡ get_or two k [] → j ≡ k
one_choice zero zero low lt same = refl
one_choice (suc zero) (suc zero) low lt same = refl
one_choice zero (suc zero) low lt same = let e = ap (λ z. get_or z 0 0) same in absurd (omega arith)
one_choice (suc zero) zero low lt same = let e = ap (λ z. get_or z 0 0) same in absurd (omega arith)
one_choice (suc (suc j)) k low lt same = absurd (omega arith)
one_choice j (suc (suc k)) low lt same = absurd (omega arith)

choices : (place : ℕ) → place < 3 → AreChoicesBy (Pairs 0) three place (place + 1) two
choices place lt = grind (arith, choices_of_pairs, three, each_choice, only_choice, one_choice)

abbrev parts : List Part
parts = record { start = 0; end = 1; choices = two } ∷ record { start = 1; end = 2; choices = two } ∷ record { start = 2; end = 3; choices = two } ∷ []

next : (place : ℕ) → IsSegment 0 three place (place + 1) → IsPartFrom (Pairs 0) three place place (place + 1)
next place segment = record { beyond = omega arith; until = λ i low lt. absurd (omega arith); part = segment }

all_parts : AreAllParts (Pairs 0) three parts
all_parts =
    record {
      next = (
        next 0 segments.0,
        choices 0 (omega arith),
        (next 1 segments.1, choices 1 (omega arith), (next 2 segments.2, choices 2 (omega arith), tt)),
      );
      rest = λ i low. agree_past three 3 i long low;
    }

fit_at : (place : ℕ) → place < 3 → IsFit 3 (record { start = place; end = place + 1; choices = two })
fit_at place lt = grind arith

fit : All (IsFit 3) parts
fit zero d lt = fit_at 0 (omega arith)
fit (suc zero) d lt = fit_at 1 (omega arith)
fit (suc (suc zero)) d lt = fit_at 2 (omega arith)
fit (suc (suc (suc k))) d lt = absurd (omega arith)

pub tried : IsTriedBy three (Pairs 0) 8
tried =
    record {
      place = 0;
      there = omega arith;
      is = refl;
      finer = λ k lt. absurd (omega arith);
      few = record { numbered = numbered (Pairs 0) three parts (2 ∷ 1 ∷ 1 ∷ []) long first_there all_parts fit; few = omega arith };
    }

pub combination_of_segments : IsCombinationBy (Pairs 0) three undamaged
unfolding undamaged
combination_of_segments =
    let all = numbered (Pairs 0) three parts (2 ∷ 1 ∷ 1 ∷ []) long first_there all_parts fit in all.are 0 (omega arith)

-- So they are among the combinations that are tried, though they are none of regions, ..
among_tried : IsAmongTried three undamaged
among_tried = are_among_tried.by_split three (Pairs 0) 8 undamaged tried combination_of_segments

-- .. and where they pass they are woven.
pub valid_of_segments : (check : Check) → PassesBy check undamaged → IsValid check three undamaged
valid_of_segments check passes = valid_by three check (Pairs 0) 8 tried undamaged combination_of_segments passes
