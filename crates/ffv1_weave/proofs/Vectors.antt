-- Two versions of three bytes that differ in the second, and two that differ in two places, just near enough to each other and just too far
-- apart: what the definitions say of them.
use Rattle.ffv1_weave.proofs.Common.{◌≡◌, ℕ, zero, suc, ◌+◌, ◌-◌, ◌<◌, ◌≤◌, List, [], ◌∷◌, ◌++◌, length, length-append, add-one, get_or, refl, sym, ap, ◌∙◌, subst, arith, inl, inr, ◌⊎◌, Contains, slice_range, cases_lt, get_or-append, get_or-replicate, length-replicate, get_or-append_right, HaveLength, AgreeAt, DifferAt, IsRegion, IsBoundary, IsSegment, IsCombination}
use Rattle.ffv1_weave.specs.declared.regions.TheConstants.{SEPARATION}
use Rattle.std.proofs.Math.ListN.{replicate}
use Rattle.ffv1_weave.proofs.Agreeing.{agree_from, agree_past, differ_from}
use Rattle.ffv1_weave.proofs.RegionSteps.{one_region}
use Rattle.ffv1_weave.proofs.BoundarySteps.{boundary_before, boundary_after}

pub versions : List (List ℕ)
versions = (1 ∷ 2 ∷ 3 ∷ []) ∷ (1 ∷ 5 ∷ 3 ∷ []) ∷ []

three : HaveLength versions 3
unfolding versions
three version (zero, lt, is) = ap length (sym is)
three version (suc zero, lt, is) = ap length (sym is)
three version (suc (suc k), lt, is) = absurd (omega arith)

module _ (a b : List ℕ) where
  two_agree : (j : ℕ) → get_or b j 0 ≡ get_or a j 0 → AgreeAt (a ∷ b ∷ []) j
  two_agree j h = grind (arith, agree_from)

first_agrees : AgreeAt versions 0
unfolding versions
first_agrees = two_agree (1 ∷ 2 ∷ 3 ∷ []) (1 ∷ 5 ∷ 3 ∷ []) 0 refl

last_agrees : AgreeAt versions 2
unfolding versions
last_agrees = two_agree (1 ∷ 2 ∷ 3 ∷ []) (1 ∷ 5 ∷ 3 ∷ []) 2 refl

-- from the last byte on they agree
rest_agrees : (i : ℕ) → 2 ≤ i → AgreeAt versions i
rest_agrees i low = elim (cases_lt i 3) [
  | inl below ↦ let is : 2 ≡ i = omega arith in subst (AgreeAt versions) is last_agrees
  | inr past ↦ agree_past versions 3 i three past
]

second_differs : DifferAt versions 1
unfolding versions
second_differs = differ_from versions 1 1 (omega arith) (λ same. absurd (omega arith))

-- a region of one place
region_at : (of : List (List ℕ)) (place end : ℕ) → place + 1 ≡ end → DifferAt of place → ((i : ℕ) → i < place → place ≤ i + SEPARATION → AgreeAt of i)
    → ((i : ℕ) → end ≤ i → i < end + SEPARATION → AgreeAt of i) → IsRegion of place end
region_at of place end next differ before after =
    let last : place ≡ end - 1 = omega arith in
    grind arith

-- the region from the second byte up to the third
region : IsRegion versions 1 2
region =
    region_at versions 1 2 refl second_differs (λ i lt near. let is : 0 ≡ i = omega arith in rw (← is) first_agrees) (λ i low near. rest_agrees i low)

-- A byte that no version has there makes no combination.
pub no_combination : IsCombination versions (1 ∷ 4 ∷ 3 ∷ []) → ⊥
unfolding versions
no_combination is = let version = is.parts 1 2 region in none version.0 version.1 version.2
  where
    none : (version : List ℕ) → Contains versions version → slice_range (1 ∷ 4 ∷ 3 ∷ []) 1 2 ≡ slice_range version 1 2 → ⊥
    none version (zero, lt, is) same = let e = ap (λ z. get_or z 0 0) (same ∙ ap (λ z. slice_range z 1 2) (sym is)) in absurd (omega arith)
    none version (suc zero, lt, is) same = let e = ap (λ z. get_or z 0 0) (same ∙ ap (λ z. slice_range z 1 2) (sym is)) in absurd (omega arith)
    none version (suc (suc k), lt, is) same = absurd (omega arith)

-- It is the only region.
pub alone : (start end : ℕ) → IsRegion versions start end → (start ≡ 1) × (end ≡ 2)
alone start end h = grind (arith, cases_lt, one_region, versions, region, first_agrees, rest_agrees)

-- ---- two versions that differ at the first place and at the last, with so many zeros between

pub spread : ℕ → List (List ℕ)
spread space = (1 ∷ (replicate space 0 ++ 1 ∷ [])) ∷ (2 ∷ (replicate space 0 ++ 2 ∷ [])) ∷ []

long : (space : ℕ) → HaveLength (spread space) (space + 2)
unfolding spread
long space version (zero, lt, is) = ap length (sym is) ∙ simp (length-append, length-replicate) (omega arith)
long space version (suc zero, lt, is) = ap length (sym is) ∙ simp (length-append, length-replicate) (omega arith)
long space version (suc (suc k), lt, is) = absurd (omega arith)

start_differs : (space : ℕ) → DifferAt (spread space) 0
unfolding spread
start_differs space = differ_from (spread space) 0 1 (omega arith) (λ same. absurd (omega arith))

end_differs : (space : ℕ) → DifferAt (spread space) (space + 1)
unfolding spread
end_differs space = differ_from (spread space) (space + 1) 1 (omega arith) (λ same. absurd (omega (arith, sym (last 2) ∙ same ∙ last 1)))
  where
    last : (byte : ℕ) → get_or (byte ∷ (replicate space 0 ++ byte ∷ [])) (space + 1) 0 ≡ byte
    last byte =
        let none : space - space ≡ 0 = omega arith in
        rw add-one (get_or-append_right (replicate space 0) (byte ∷ []) space space 0 (length-replicate space 0) (omega arith)
        ∙ ap (λ n. get_or (byte ∷ []) n 0) none)

between_agrees : (space i : ℕ) → 0 < i → i < space + 1 → AgreeAt (spread space) i
unfolding spread
between_agrees space zero above below = absurd (omega arith)
between_agrees space (suc i) above below = agree_from (spread space) (suc i) same
  where
    inner : (byte : ℕ) → get_or (byte ∷ (replicate space 0 ++ byte ∷ [])) (suc i) 0 ≡ 0
    inner byte =
        get_or-append (replicate space 0) (byte ∷ []) 0 i (omega (arith, length-replicate {A = ℕ} space 0)) ∙ get_or-replicate space i 0 0 (omega arith)

    same : (k : ℕ) → k < 2 → get_or (get_or (spread space) k []) (suc i) 0 ≡ get_or (get_or (spread space) 0 []) (suc i) 0
    same zero lt = refl
    same (suc zero) lt = inner 2 ∙ sym (inner 1)
    same (suc (suc k)) lt = absurd (omega arith)

-- sixty-three zeros between, so at a distance of 64: one region
pub one_of_both : IsRegion (spread 63) 0 65
one_of_both =
    record {
      some = omega arith;
      first = start_differs 63;
      last = end_differs 63;
      before = λ i lt near. absurd (omega arith);
      after = λ i low near. agree_past (spread 63) 65 i (long 63) low;
      within = λ i low high here. (64, omega arith, omega arith, omega arith, end_differs 63);
    }

-- sixty-four between, so at a distance of 65: two
pub first_of_two : IsRegion (spread 64) 0 1
first_of_two =
    region_at (spread 64) 0 1 refl (start_differs 64) (λ i lt near. absurd (omega arith)) (λ i low near. between_agrees 64 i (omega arith) (omega arith))

pub second_of_two : IsRegion (spread 64) 65 66
second_of_two =
    region_at (spread 64) 65 66 refl (end_differs 64) (λ i lt near. between_agrees 64 i (omega arith) (omega arith))
    (λ i low near. agree_past (spread 64) 66 i (long 64) low)

-- and so not one
pub not_of_both : IsRegion (spread 64) 0 66 → ⊥
not_of_both h =
    let next = h.within 0 (omega arith) (omega arith) (start_differs 64) in
    next.4 (between_agrees 64 next.0 next.1 (omega arith))

-- ---- the boundaries and the segments of these two

module _ (a b : List ℕ) where
  -- where two of them differ somewhere, they differ wherever any do
  two_differ : (i j : ℕ) (one other : List ℕ) → Contains (a ∷ b ∷ []) one → Contains (a ∷ b ∷ []) other
      → (get_or one i 0 ≡ get_or other i 0 → ⊥) → DifferAt (a ∷ b ∷ []) j → get_or one j 0 ≡ get_or other j 0 → ⊥
  two_differ i j one other (zero, lt, is) (zero, less, it) apart differ same = apart (ap (λ v. get_or v i 0) (sym is ∙ it))
  two_differ i j one other (suc zero, lt, is) (suc zero, less, it) apart differ same = apart (ap (λ v. get_or v i 0) (sym is ∙ it))
  two_differ i j one other (zero, lt, is) (suc zero, less, it) apart differ same = grind (arith, two_agree, same)
  two_differ i j one other (suc zero, lt, is) (zero, less, it) apart differ same = grind (arith, two_agree, same)
  two_differ i j one other (suc (suc k), lt, is) here apart differ same = absurd (omega arith)
  two_differ i j one other (zero, lt, is) (suc (suc k), less, it) apart differ same = absurd (omega arith)
  two_differ i j one other (suc zero, lt, is) (suc (suc k), less, it) apart differ same = absurd (omega arith)

spread_differ : (space i j : ℕ) (one other : List ℕ) → Contains (spread space) one → Contains (spread space) other
    → (get_or one i 0 ≡ get_or other i 0 → ⊥) → DifferAt (spread space) j → get_or one j 0 ≡ get_or other j 0 → ⊥
unfolding spread
spread_differ space i j one other there here apart differ same = grind (arith, two_differ, replicate, same)

-- they differ at no other place
only_ends : (space i : ℕ) → DifferAt (spread space) i → (i ≡ 0) ⊎ (i ≡ space + 1)
only_ends space i differ = elim (cases_lt 0 i) [
  | inr none ↦ inl (omega arith)
  | inl above ↦ elim (cases_lt i (space + 1)) [
    | inl below ↦ absurd (differ (between_agrees space i above below))
    | inr high ↦ elim (cases_lt (space + 1) i) [
      | inr low ↦ inr (omega arith)
      | inl past ↦ absurd (differ (agree_past (spread space) (space + 2) i (long space) (omega arith)))
    ]
  ]
]

module _ (distance space : ℕ) where
  -- their end is a boundary
  end_is_boundary : IsBoundary distance (spread space) (space + 2)
  end_is_boundary = boundary_after distance (spread space) (space + 1) (space + 2) (omega arith) (end_differs space)
      (λ i low near. agree_past (spread space) (space + 2) i (long space) low)

  -- where the two places are further apart than the distance, each is a segment
  two_segments : distance ≤ space → IsSegment distance (spread space) 0 1 × IsSegment distance (spread space) (space + 1) (space + 2)
  two_segments far = (
    record {
      some = omega arith;
      first = inl refl;
      last = inl (boundary_after distance (spread space) 0 1 refl (start_differs space) (λ i low near. between_agrees space i low (omega arith)));
      within = λ i low lt boundary. absurd (omega arith);
    },
    record {
      some = omega arith;
      first = inr (boundary_before distance (spread space) (space + 1) (end_differs space) (λ i lt near. between_agrees space i (omega arith) lt));
      last = inl end_is_boundary;
      within = λ i low lt boundary. absurd (omega arith);
    },
  )

  -- where they are not, both are of one
  one_segment : space < distance → IsSegment distance (spread space) 0 (space + 2)
  one_segment near =
      record {
        some = omega arith;
        first = inl refl;
        last = inl end_is_boundary;
        within = λ i low lt boundary. elim boundary.parted [
          | inl begins ↦ elim (only_ends space i (λ agree. begins.differ (agree boundary.one boundary.other boundary.one_there boundary.other_there))) [
            | inl none ↦ omega arith
            | inr high ↦ spread_differ space i 0 boundary.one boundary.other boundary.one_there boundary.other_there begins.differ (start_differs space)
                (begins.before 0 low (omega arith))
          ]
          | inr ends ↦ let next = ends.next in
              elim (only_ends space ends.last (λ agree. ends.differ (agree boundary.one boundary.other boundary.one_there boundary.other_there))) [
                | inl none ↦ spread_differ space ends.last (space + 1) boundary.one boundary.other boundary.one_there boundary.other_there ends.differ
                    (end_differs space) (ends.after (space + 1) (omega arith) (omega arith))
                | inr high ↦ omega arith
              ]
        ];
      }

-- the distances by which versions are parted, and places that are just near enough, and just too far apart
pub none_together : IsSegment 0 (spread 0) 0 1 × IsSegment 0 (spread 0) 1 2
none_together = two_segments 0 0 (omega arith)

pub one_apart_together : IsSegment 2 (spread 0) 0 2
one_apart_together = one_segment 2 0 (omega arith)

pub two_apart_together : IsSegment 2 (spread 1) 0 3
two_apart_together = one_segment 2 1 (omega arith)

pub three_apart_parted : IsSegment 2 (spread 2) 0 1 × IsSegment 2 (spread 2) 3 4
three_apart_parted = two_segments 2 2 (omega arith)

pub eight_apart_together : IsSegment 8 (spread 7) 0 9
eight_apart_together = one_segment 8 7 (omega arith)

pub nine_apart_parted : IsSegment 8 (spread 8) 0 1 × IsSegment 8 (spread 8) 9 10
nine_apart_parted = two_segments 8 8 (omega arith)

pub sixty_four_apart_together : IsSegment 64 (spread 63) 0 65
sixty_four_apart_together = one_segment 64 63 (omega arith)

pub sixty_five_apart_parted : IsSegment 64 (spread 64) 0 1 × IsSegment 64 (spread 64) 65 66
sixty_five_apart_parted = two_segments 64 64 (omega arith)
