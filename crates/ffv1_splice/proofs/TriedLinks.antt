-- When a link's slice is among the combinations that are tried there.
use Rattle.ffv1_slice.proofs.Links.{end_within}
use Rattle.ffv1_splice.proofs.Common.{◌≡◌, ℕ, ◌+◌, ◌-◌, ◌≤◌, List, length, map, refl, sym, ◌∙◌, subst, arith, Contains, slice_range, FooterGives, IsLinkOf, length-range, IsCombination, are_among_tried, few_changed, AllReach, HasContent, IsClaimedStart, versions_at, sized, LinksAreTried}
use Rattle.ffv1_splice.proofs.FirstSlices.{combination_claim}
use Rattle.ffv1_splice.proofs.Narrowed.{versions_of_versions, claim_out}
use Rattle.ffv1_splice.proofs.SizedCombinations.{sized_placewise, sized_combination, sized_each_byte}
use Rattle.ffv1_splice.proofs.Versions.{version_there, version_length}
use Rattle.ffv1_splice.proofs.WovenLaws.{framed_link}

module _ (original : List ℕ) (start end : ℕ) (link : IsLinkOf original start end) where
  below : start + 8 ≤ end
  below = let cut : FooterGives original start end = link.cut in omega arith

  long : length (slice_range original start end) ≡ end - start
  long = let lies = below in length-range original start end (omega arith) (end_within original end link.is_end) ∙ omega arith

  module _ (copies : List (List ℕ)) (reach : AllReach copies end) where
    -- some copy has the size field of a combination of regions, and claims its start
    claimed : (copy : List ℕ) → Contains copies copy → HasContent start end → IsCombination (versions_at copies start end) (slice_range original start end)
        → IsClaimedStart copies end start
    claimed copy there content is =
        let lies = below in
        let versions : List (List ℕ) = versions_at copies start end in
        let all : start + (end - start) ≡ end = omega arith in
        let same : versions_at versions 0 (end - start) ≡ versions =
        versions_of_versions start end copies 0 (end - start) (omega arith) ∙ here all in
        let claim : IsClaimedStart versions (end - start) 0 =
        combination_claim versions (end - start) (slice_range copy start end) (slice_range original start end)
        (λ version in_versions. omega (arith, version_length copies start end (omega arith) reach version in_versions))
        (version_there copies start end copy there) (omega arith) (framed_link original start end link)
        (subst (λ vs. IsCombination vs (slice_range original start end)) (sym same) is) in
        let out : IsClaimedStart copies (start + (end - start)) (start + 0) = claim_out start end copies (end - start) 0 (omega arith) claim in
        let first : start + 0 ≡ start = omega arith in
        subst (λ s. IsClaimedStart copies end s) first (subst (λ e. IsClaimedStart copies e (start + 0)) all out)
      where
        here : start + (end - start) ≡ end → versions_at copies (start + 0) (start + (end - start)) ≡ versions_at copies start end
        here all = let first : start + 0 ≡ start = omega arith in rw (first, all) refl

pub links_are_tried : LinksAreTried
links_are_tried = record {
  regions = λ original copies copy start end there reach link is. record {
    claimed = λ _. are_among_tried.regions (versions_at copies start end) (slice_range original start end) is;
    unclaimed = λ content no_claim. absurd (no_claim (claimed original start end link copies reach copy there content is));
    several = λ _ are_bytes. are_among_tried.regions (map sized (versions_at copies start end)) (slice_range original start end)
        (sized_combination copies start end copy (slice_range original start end) reach there (below original start end link)
        (framed_link original start end link) is are_bytes);
  };
  each_byte = λ original copies start end count reach link small has few.
      let lies = below original start end link in
      let size = long original start end link in
      let first = has.intact 0 (omega arith) in
      let sized_few = few_changed (versions_at copies start end) (end - start) (version_length copies start end (omega arith) reach) first.0 first.1 sized
      (sized_placewise (end - start) (omega arith)) count few in
      let among = are_among_tried.each_byte (slice_range original start end) (map sized (versions_at copies start end)) sized_few.0
      (sized_each_byte copies start end (slice_range original start end) reach lies (framed_link original start end link) small size has) sized_few.1 in
      record {
        claimed = λ _. are_among_tried.each_byte (slice_range original start end) (versions_at copies start end) count has few;
        unclaimed = λ _ _. among;
        several = λ _ _. among;
      };
}
