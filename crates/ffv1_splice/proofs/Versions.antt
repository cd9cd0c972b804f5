-- What copies have between two places.
use Rattle.ffv1_weave.proofs.OneBit.{length-inverted}
use Rattle.ffv1_splice.proofs.Common.{◌≡◌, ℕ, ◌+◌, ◌-◌, ◌<◌, ◌≤◌, List, [], ◌∷◌, ◌++◌, Bor, length, get_or, take, map, sym, ap, ◌∙◌, subst, arith, All, Contains, slice_range, get_or-map, length-map, take_more, Contains-get_or, length-range, HasSameMembers, HaveLength, woven, IsRepair, mapped_there, mapped_of, same_mapped, AllReach, versions_at, IsWeaveAt, IsVoteAt, IsRepairAt, value_at, length-values_of, value_there}
use Rattle.ffv1_splice.proofs.PlaceSteps.{unwoven_weave}

-- ---- versions

module _ (copies : List (List ℕ)) (start end : ℕ) where
  -- each copy has a version, ..
  pub version_there : (copy : List ℕ) → Contains copies copy → Contains (versions_at copies start end) (slice_range copy start end)
  version_there = mapped_there (λ copy. slice_range copy start end) copies

  -- .. and each version is a copy's
  pub version_of : (version : List ℕ) → Contains (versions_at copies start end) version
      → (copy : List ℕ) × Contains copies copy × (version ≡ slice_range copy start end)
  version_of = mapped_of (λ copy. slice_range copy start end) copies

  -- what is woven is as long as the place
  pub weave_size : (bytes : List ℕ) (count : ℕ) → AllReach copies end → IsWeaveAt copies start end (woven bytes count) → start + length bytes ≡ end
  weave_size bytes count reach h =
      let copy : List ℕ = h.claim.there.copy in
      let size = length-range copy start end (omega arith) (reach copy h.claim.there.there) in
      let same = h.weave'.0.there.combination.same_length (slice_range copy start end) (version_there copy h.claim.there.there) in
      omega arith

  -- and so is what is voted, ..
  pub vote_size : (bytes : List ℕ) (count : ℕ) → AllReach copies end → IsVoteAt copies start end bytes count → start + length bytes ≡ end
  vote_size bytes count reach h =
      let claim = (unwoven_weave copies start end h.unwoven).1.claim.there in
      let size = length-range claim.copy start end (omega arith) (reach claim.copy claim.there) in
      let same = h.vote.only.there.combination.same_length (slice_range claim.copy start end) (version_there claim.copy claim.there) in
      omega arith

  -- .. and what is repaired
  pub repair_size : (bytes : List ℕ) (count : ℕ) → AllReach copies end → IsRepairAt copies start end bytes count → start + length bytes ≡ end
  repair_size bytes count reach h =
      let claim = h.missed.claim.there in
      let size = length-range claim.copy start end (omega arith) (reach claim.copy claim.there) in
      let repair : IsRepair (versions_at copies start end) bytes = h.repair.only.there in
      let same = repair.combination.same_length (slice_range claim.copy start end) (version_there claim.copy claim.there) in
      let long = ap length repair.is ∙ length-inverted repair.base repair.bit repair.inside in
      omega arith

-- the same copies have the same versions
pub same_versions : (copies others : List (List ℕ)) → HasSameMembers copies others → (start end : ℕ)
    → HasSameMembers (versions_at copies start end) (versions_at others start end)
same_versions copies others same start end = same_mapped (λ copy. slice_range copy start end) copies others same

-- ---- versions as the code lists them

module _ (copies : List (Bor (List ℕ))) (start end : ℕ) where
  length-versions : length (versions_at (map (λ copy. copy.now) copies) start end) ≡ length copies
  length-versions = length-map (map (λ copy. copy.now) copies) (λ copy. slice_range copy start end) ∙ length-map copies (λ copy. copy.now)

  -- the first versions, and the next one
  pub next_version : (i : ℕ) (d : Bor (List ℕ)) → i < length copies
      → take i (versions_at (map (λ copy. copy.now) copies) start end) ++ slice_range (get_or copies i d).now start end ∷ []
      ≡ take (i + 1) (versions_at (map (λ copy. copy.now) copies) start end)
  next_version i d h =
      ap (λ x. take i (versions_at (map (λ copy. copy.now) copies) start end) ++ x ∷ [])
      (sym (get_or-map (λ copy. slice_range copy start end) (map (λ copy. copy.now) copies) i [] [] (omega (arith, length-values_of copies))
      ∙ ap (λ copy. slice_range copy start end) (value_at copies i d [] h)))
      ∙ sym (take_more (versions_at (map (λ copy. copy.now) copies) start end) i [] (omega (arith, length-versions)))

-- ---- how long versions are

module _ (copies : List (List ℕ)) (start end : ℕ) (order : start ≤ end) (reach : AllReach copies end) where
  pub version_length : HaveLength (versions_at copies start end) (end - start)
  version_length version there =
      let of = version_of copies start end version there in
      ap length of.2 ∙ length-range of.0 start end order (reach of.0 of.1)

module _ (all : List (List ℕ)) (size : ℕ) (long : HaveLength all size) (versions : List (Bor (List ℕ)))
    (are : map (λ version. version.now) versions ≡ all) where
  pub length_of : (k : ℕ) (d : Bor (List ℕ)) → k < length versions → length (get_or versions k d).now ≡ size
  length_of k d lt = long (get_or versions k d).now (subst (λ vs. Contains vs (get_or versions k d).now) are (value_there versions k d lt))

  length_of_first : 0 < length versions → length (get_or (map (λ version. version.now) versions) 0 []) ≡ size
  length_of_first lt =
      cc (long (get_or (map (λ version. version.now) versions) 0 []) (subst (λ vs. Contains vs (get_or (map (λ version. version.now) versions) 0 [])) are (Contains-get_or (map (λ version. version.now) versions) 0 [] (omega (arith, length-values_of versions)))))

  -- all are as long as the first
  pub one_length : All (λ version. length version.now ≡ length (get_or (map (λ version. version.now) versions) 0 [])) versions
  one_length k d lt = length_of k d lt ∙ sym (length_of_first (omega arith))
