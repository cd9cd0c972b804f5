-- Regions are the coarsest split: what is a combination of regions is one of segments.
use Rattle.ffv1_weave.proofs.Common.{◌≡◌, ℕ, zero, suc, ◌-◌, ◌<◌, ◌≤◌, List, length, get_or, sym, ap, ◌∙◌, subst, arith, inl, inr, rules, Contains, slice_range, cases_lt, get_or_default, HaveLength, DifferAt, IsRegion, IsBoundary, IsSegment, splits, IsCombinationBy, IsCombination, RegionsAreCoarsest, Pairs, Regions}
use Rattle.ffv1_weave.specs.declared.regions.TheConstants.{SEPARATION}
use Rattle.ffv1_weave.proofs.Agreeing.{some_differ}
use Rattle.ffv1_weave.proofs.WiderRegions.{region_of}
use Rattle.ffv1_weave.proofs.BoundarySteps.{boundary_before, boundary_after, segment_within}
use Rattle.ffv1_weave.proofs.SplitSteps.{region_within}
use Rattle.ffv1_weave.proofs.Choices.{same_range, range_at}

-- ---- the ends of a region are boundaries

module _ (versions : List (List ℕ)) where
  first_is_boundary : (distance start end : ℕ) → distance ≤ SEPARATION → IsRegion versions start end → IsBoundary distance versions start
  first_is_boundary distance start end near h = boundary_before distance versions start h.first (λ i lt close. h.before i lt (omega arith))

  last_is_boundary : (distance start end : ℕ) → distance ≤ SEPARATION → IsRegion versions start end → IsBoundary distance versions end
  last_is_boundary distance start end near h =
      boundary_after distance versions (end - 1) end (omega arith) h.last (λ i low lt. h.after i low (omega arith))

  -- A segment in which versions differ lies in one region.
  in_region : (distance size start end place : ℕ) → distance ≤ SEPARATION → HaveLength versions size → IsSegment distance versions start end → start ≤ place
      → place < end → DifferAt versions place → (s e : ℕ) × (s ≤ start) × (end ≤ e) × IsRegion versions s e
  in_region distance size start end place near long h low lt differ =
      let region = region_of versions size place long differ in
      let before = region.before in
      let beyond = region.beyond in (
        region.begin,
        region.last,
        elim (cases_lt start region.begin) [
          | inr below ↦ below
          | inl above ↦ absurd (h.within region.begin above (omega arith) (first_is_boundary distance region.begin region.last near region.region))
        ],
        elim (cases_lt region.last end) [
          | inr above ↦ above
          | inl below ↦ absurd (h.within region.last (omega arith) below (last_is_boundary distance region.begin region.last near region.region))
        ],
        region.region,
      )

-- ---- a combination of regions is one of segments

pub segment_version : (distance : ℕ) (versions : List (List ℕ)) (start end : ℕ) → IsSegment distance versions start end → (version : List ℕ) × Contains versions version
segment_version distance versions start end h = elim h.last [ inl boundary ↦ (boundary.one, boundary.one_there) | inr at_end ↦ (at_end.0, at_end.1) ]

module _ (versions : List (List ℕ)) (bytes : List ℕ) (is : IsCombination versions bytes) where
  long : HaveLength versions (length bytes)
  long version there = sym (is.same_length version there)

  segment_from_one : (distance start end : ℕ) → distance ≤ SEPARATION → IsSegment distance versions start end
      → (version : List ℕ) × Contains versions version × (slice_range bytes start end ≡ slice_range version start end)
  segment_from_one distance start end near h =
      let within = segment_within distance versions (length bytes) start end (long) h in
      elim (some_differ versions start (end - start)) [
        | inl agree ↦
            let version = segment_version distance versions start end h in (
              version.0,
              version.1,
              same_range bytes version.0 start end within (omega (arith, long version.0 version.1))
                  (λ i low lt. is.agrees i (agree i low (omega arith)) version.0 version.1),
            )
        | inr found ↦
            let some = h.some in
            let wide = in_region versions distance (length bytes) start end found.0 near (long) h found.1 (let lt = found.2 in omega arith) found.3 in
            let version = is.parts wide.0 wide.1 wide.4 in
            let reach = region_within versions (length bytes) wide.0 wide.1 (long) wide.4 in (
              version.0,
              version.1,
              same_range bytes version.0 start end within (omega (arith, long version.0 version.1))
                  (λ i low lt. let before = wide.2 in let beyond = wide.3 in sym (range_at bytes wide.0 wide.1 i (omega arith) (omega arith))
                  ∙ ap (λ z. get_or z (i - wide.0) 0) version.2 ∙ range_at version.0 wide.0 wide.1 i (omega arith) (omega arith)),
            )
      ]

  segments_of : (distance : ℕ) → distance ≤ SEPARATION → IsCombinationBy (Pairs distance) versions bytes
  segments_of distance near = search (rules, segment_from_one)

  each_split : (k : ℕ) → k < length splits → IsCombinationBy (get_or splits k Regions) versions bytes
  each_split zero lt = segments_of 0 (omega arith)
  each_split (suc zero) lt = segments_of 2 (omega arith)
  each_split (suc (suc zero)) lt = segments_of 8 (omega arith)
  each_split (suc (suc (suc zero))) lt = segments_of 64 (omega arith)
  each_split (suc (suc (suc (suc zero)))) lt = is
  each_split (suc (suc (suc (suc (suc k))))) lt = absurd (omega arith)

pub regions_are_coarsest : RegionsAreCoarsest
regions_are_coarsest split versions bytes there is =
    subst (λ g. IsCombinationBy g versions bytes) (get_or_default splits there.0 Regions split there.1 ∙ there.2)
    (each_split versions bytes is there.0 there.1)
