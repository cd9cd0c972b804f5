-- The first slice of copies, whose size is known: what copies have up to its end, each with that size, and what is woven of it.
use Rattle.ffv1_splice.proofs.Common.{◌≡◌, ℕ, Vec, Global, ◌+◌, ◌-◌, ◌<◌, ◌≤◌, List, [], ◌++◌, length, get_or, drop, map, refl, ap, ◌∙◌, subst, arith, inl, inr, Contains, slice_range, cases_lt, append-nil, length-append, length-take-le, length-drop, take_all, drop_all, drop-drop, mid_of, put_mid, big_bytes, big_number, size_before, FooterGives, IsFramed, HasSameMembers, IsOfNone, length-range, size_of_range, IsCombination, HaveLength, weave_tally, woven, WeaveResult, same_range, range_at, AllReach, HasContent, IsPiece, IsClaimedStart, versions_at, sized, IsWeaveFromFront, IsWeaveOfSeveral, StandsAs, IsStop, Woven, mapped_there, mapped_of, same_mapped, some_differ, region_of}
use Rattle.ffv1_weave.specs.declared.weaving.WeaveResult.TheVariants as outcomes
use Rattle.ffv1_splice.proofs.PlaceSteps.{claim_below, none_not_only}
use Rattle.ffv1_splice.proofs.Versions.{same_versions, version_there, version_of, version_length, weave_size}

-- ---- bytes with their size

pub length-sized : (bytes : List ℕ) → 8 ≤ length bytes → length (sized bytes) ≡ length bytes
length-sized bytes long = grind (arith, length-append, length-take-le, length-drop)

-- the size, written over the bytes from their footer on
pub put_size : (bytes new : List ℕ) → 8 ≤ length bytes
    → new ≡ big_bytes 3 (length bytes - 8) ++ drop 3 (mid_of (length bytes - 8) (length bytes - (length bytes - 8)) bytes)
    → put_mid (length bytes - 8) (length bytes - (length bytes - 8)) bytes new ≡ sized bytes
put_size bytes new long is =
    let size : ℕ = length bytes - 8 in
    let rest = length-drop (length bytes - 8) bytes in
    let footer : mid_of size (length bytes - size) bytes ≡ drop size bytes = take_all (length bytes - size) (drop size bytes) (omega arith) in
    let none : drop (length bytes - size) (drop size bytes) ≡ [] = drop_all (length bytes - size) (drop size bytes) (omega arith) in
    let on : length bytes - 8 + 3 ≡ length bytes - 5 = omega arith in
    cc (append-nil new, drop-drop 3 size bytes)

-- the same copies have the same versions with their size
pub same_sized : (copies others : List (List ℕ)) → HasSameMembers copies others → (start end : ℕ)
    → HasSameMembers (map sized (versions_at copies start end)) (map sized (versions_at others start end))
same_sized copies others same start end =
    same_mapped sized (versions_at copies start end) (versions_at others start end) (same_versions copies others same start end)

module _ (copies : List (List ℕ)) (end : ℕ) (reach : AllReach copies end) where
  pub sized_length : (start : ℕ) → start + 8 ≤ end → HaveLength (map sized (versions_at copies start end)) (end - start)
  sized_length start footer version there =
      let of = mapped_of sized (versions_at copies start end) version there in
      let size = version_length copies start end (omega arith) reach of.0 of.1 in
      ap length of.2 ∙ length-sized of.0 (omega arith) ∙ omega arith

  -- what is woven is as long as the copies are up to there
  pub front_size : (copy bytes : List ℕ) (count : ℕ) → Contains copies copy → IsWeaveFromFront copies end (woven bytes count) → 0 + length bytes ≡ end
  front_size copy bytes count there h =
      let version : List ℕ = sized (slice_range copy 0 end) in
      let in_versions = mapped_there sized (versions_at copies 0 end) (slice_range copy 0 end) (version_there copies 0 end copy there) in
      let long = sized_length 0 (omega arith) version in_versions in
      omega (arith, h.weave'.0.there.combination.same_length version in_versions)

  pub several_size : (start : ℕ) (bytes : List ℕ) (count : ℕ) → IsWeaveOfSeveral copies start end bytes count → start + length bytes ≡ end
  several_size start bytes count h =
      let copy : List ℕ = h.claim.copy in
      let version : List ℕ = sized (slice_range copy start end) in
      let in_versions = mapped_there sized (versions_at copies start end) (slice_range copy start end) (version_there copies start end copy h.claim.there) in
      let long = sized_length start (omega arith) version in_versions in
      omega (arith, h.weave'.0.there.combination.same_length version in_versions)

-- no place ends where no piece does and no start is claimed, and nothing is woven from the front
pub stops_no_claim : (copies : List (List ℕ)) (end : ℕ) → IsOfNone (IsPiece copies end) → IsOfNone (IsClaimedStart copies end)
    → ((bytes : List ℕ) (count : ℕ) → IsWeaveFromFront copies end (woven bytes count) → ⊥) → IsStop copies end
stops_no_claim copies end none no_claim unclaimed =
    record {
      unsettled = none_not_only (IsPiece copies end) none;
      no_claim = none_not_only (IsClaimedStart copies end) no_claim;
      unclaimed = unclaimed;
      unwoven = λ start bytes count several. no_claim start several.claim;
    }

-- an outcome other than `Woven` has no woven bytes
pub not_woven : (outcome : WeaveResult) → ((bytes : Vec ℕ Global) (count : ℕ) → outcome ≡ outcomes.Woven bytes count → ⊥) → (bytes : List ℕ) (count : ℕ)
    → weave_tally outcome ≡ woven bytes count → ⊥
not_woven (outcomes.Woven items n) apart bytes count is = apart items n refl
not_woven outcome apart bytes count is = absurd (cc)

-- ---- what is woven, whether its start is claimed or known

module _ (copies : List (List ℕ)) (start end : ℕ) (bytes : List ℕ) (count : ℕ) where
  pub woven_below : StandsAs copies start end bytes (Woven count) → start + 8 ≤ end
  woven_below (inl h) = claim_below copies start end h.claim.there
  woven_below (inr (inl h)) = let content : HasContent 0 end = h.1.content in let first : start ≡ 0 = h.0 in omega arith
  woven_below (inr (inr h)) = claim_below copies start end h.claim

  pub woven_size : (copy : List ℕ) → Contains copies copy → AllReach copies end → StandsAs copies start end bytes (Woven count)
      → start + length bytes ≡ end
  woven_size copy there reach (inl h) = weave_size copies start end bytes count reach h
  woven_size copy there reach (inr (inr h)) = several_size copies end reach start bytes count h
  woven_size copy there reach (inr (inl h)) =
      let size = front_size copies end reach copy bytes count there h.1 in let first : start ≡ 0 = h.0 in omega arith

-- ---- a combination whose footer gives its own size

-- bytes that are the same between two places have the same at each place between
pub same_inside : (a b : List ℕ) (start end i : ℕ) → start ≤ i → i < end → slice_range a start end ≡ slice_range b start end → get_or a i 0 ≡ get_or b i 0
same_inside a b start end i low lt same = grind (arith, range_at)

-- In 64 places in a row, or fewer, a combination has what one version has.
module _ (versions : List (List ℕ)) (size : ℕ) (long : HaveLength versions size) (bytes : List ℕ) (is : IsCombination versions bytes) where
  pub combination_between : (first : List ℕ) → Contains versions first → (start end : ℕ) → start ≤ end → end ≤ start + 64 → end ≤ size
      → (version : List ℕ) × Contains versions version × (slice_range bytes start end ≡ slice_range version start end)
  combination_between first there start end order near within =
      let reach : end ≤ length bytes = omega (arith, is.same_length first there, long first there) in
      elim (some_differ versions start (end - start)) [
        | inl quiet ↦ (
          first,
          there,
          same_range bytes first start end reach (omega (arith, long first there))
              (λ i low lt. is.agrees i (quiet i low (omega arith)) first there),
        )
        | inr found ↦
            let low = found.1 in
            let lt = found.2 in
            let wide = region_of versions size found.0 long found.3 in
            let before = wide.before in
            let beyond = wide.beyond in
            let whole = is.parts wide.begin wide.last wide.region in (
              whole.0,
              whole.1,
              same_range bytes whole.0 start end reach (omega (arith, long whole.0 whole.1)) (λ i above below. elim (cases_lt i wide.begin) [
                | inl early ↦ is.agrees i (wide.region.before i early (omega arith)) whole.0 whole.1
                | inr from ↦ elim (cases_lt i wide.last) [
                  | inl inside ↦ same_inside bytes whole.0 wide.begin wide.last i from inside whole.2
                  | inr late ↦ is.agrees i (wide.region.after i late (omega arith)) whole.0 whole.1
                ]
              ]),
            )
      ]

-- a copy with the footer of a slice that ends there, and is as long as the copies are up to there, claims the start
cut_by_footer : (copy version slice : List ℕ) (end : ℕ) → 8 ≤ end → end ≤ length copy → version ≡ slice_range copy 0 end
    → slice_range slice (end - 8) end ≡ slice_range version (end - 8) end → size_before slice end ≡ end - 8 → FooterGives copy 0 end
cut_by_footer copy version slice end footer within is same size =
    let long : length (slice_range copy 0 end) ≡ end = length-range copy 0 end (omega arith) within ∙ omega arith in
    let claim : size_before slice end ≡ size_before version end = ap (big_number 3) same in
    let on : size_before version end ≡ size_before (slice_range copy 0 end) end = ap (λ v. size_before v end) is in
    let ends = ap (size_before (slice_range copy 0 end)) long in
    let cut = size_of_range copy 0 end footer within in
    omega arith

-- So where a slice is a combination of what the copies have, some copy has its size field, and claims its start.
pub combination_claim : (copies : List (List ℕ)) (end : ℕ) (copy slice : List ℕ) → AllReach copies end → Contains copies copy → HasContent 0 end
    → IsFramed slice → IsCombination (versions_at copies 0 end) slice → IsClaimedStart copies end 0
combination_claim copies end copy slice reach there content framed is =
    let first = version_there copies 0 end copy there in
    let long : HaveLength (versions_at copies 0 end) end =
    λ version in_versions. version_length copies 0 end (omega arith) reach version in_versions ∙ omega arith in
    let size : length slice ≡ end = is.same_length (slice_range copy 0 end) first ∙ long (slice_range copy 0 end) first in
    let part = combination_between (versions_at copies 0 end) end long slice is (slice_range copy 0 end) first (end - 8) end (omega arith) (omega arith)
    (omega arith) in
    let of = version_of copies 0 end part.0 part.1 in
    let own : size_before slice end ≡ end - 8 = subst (λ n. size_before slice n ≡ n - 8) size framed.size in
    record {
      copy = of.0;
      there = of.1;
      cut = cut_by_footer of.0 part.0 slice end (omega arith) (reach of.0 of.1) of.2 part.2 own;
      content = content;
    }
