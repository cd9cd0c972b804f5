-- What stands woven in a splice is woven as the small definitions have it.
use Rattle.ffv1_splice.proofs.Common.{◌≡◌, ℕ, ◌+◌, ◌-◌, ◌<◌, List, length, get_or, map, refl, sym, ap, ◌∙◌, subst, arith, inl, inr, ◌⊎◌, cases_eq, Contains, slice_range, IsOnly, IsOfTwo, IsOfNone, Slice, AreFew, AllReach, IsPiece, link_of, IsClaimedStart, versions_at, sized, IsWeaveFromFront, IsWeaveOfSeveral, StandsAs, IsSettledOrWoven, Standing, Settled, Woven, Place}
use Rattle.ffv1_weave.specs.Combinations.{IsValid}
use Rattle.ffv1_weave.specs.Weave.Weave.{woven}
use Rattle.ffv1_weave.specs.Regions.{HaveLength}
use Rattle.ffv1_weave.proofs.Mapped.{mapped_of, mapped_there}
use Rattle.ffv1_weave.proofs.AmongTried.{covered_is_combination}
use Rattle.ffv1_weave.proofs.Tried.{tried_split}
use Rattle.ffv1_splice.specs.Small.{PassesAsSlice, IsPieceAt, IsClaimedAbove, IsTried, IsTriedUpTo, IsWovenAt}
use Rattle.ffv1_splice.specs.Small.IsTriedUpTo.{alone, several, unclaimed}
use Rattle.ffv1_splice.proofs.Versions.{version_of, version_length}
use Rattle.ffv1_splice.proofs.Narrowed.{versions_of_versions, claim_in, claim_out}
use Rattle.ffv1_splice.proofs.StandingPlaces.{StandsBetween}
use Rattle.ffv1_splice.proofs.WholeFrames.{IsWholeSlice}
use Rattle.ffv1_splice.proofs.FirstSlices.{length-sized}
use Rattle.ffv1_splice.proofs.SmallNear.{length_there}
use Rattle.ffv1_splice.proofs.SmallClaims.{piece_to, claim_to, claim_from}

-- ---- what is tried and passes is valid

valid_tried : (versions : List (List ℕ)) (bytes : List ℕ) → IsValid Slice versions bytes → IsTried versions bytes
valid_tried versions bytes valid = (valid.split, valid.count, valid.tried, valid.combination)

tried_valid : (versions : List (List ℕ)) (bytes : List ℕ) → IsTried versions bytes → PassesAsSlice bytes → IsValid Slice versions bytes
tried_valid versions bytes tried passes =
    record { split = tried.0; count = tried.1; tried = tried.2; combination = tried.3; passes = (passes.0.framed, passes.1) }

-- Where combinations of versions of one length are tried, each version is one.
version_tried : (versions : List (List ℕ)) (count : ℕ) → AreFew versions count → (version : List ℕ) → Contains versions version
    → ((other : List ℕ) → Contains versions other → length other ≡ length version) → IsTried versions version
version_tried versions count few version there long = (
  few.split,
  count,
  few.tried,
  covered_is_combination few.split version versions (tried_split versions few.split count few.tried)
      (record { one_length = long; right = λ i agree other is. agree other version is there; intact = λ start end part. (version, there, refl) }),
)

-- what copies have up to an end to which they reach, each with its size, is of one length
sized_length : (copies : List (List ℕ)) (end : ℕ) → AllReach copies end → (start : ℕ) {floor : ℕ} (claim : IsClaimedAbove copies floor end start)
    → (other : List ℕ) → Contains (map sized (versions_at copies start end)) other → length other ≡ length (sized claim.version)
sized_length copies end reach start claim other there =
    let of = mapped_of sized (versions_at copies start end) other there in
    let content : 8 < length claim.version = claim.footer.content in
    let here = version_of copies start end claim.version claim.there in
    let mine = length_there here.0 start end in
    let size = ap length here.2 in
    let within = reach here.0 here.1 in
    let long : HaveLength (versions_at copies start end) (end - start) = version_length copies start end (omega arith) reach in
    ap length of.2 ∙ length-sized of.0 (omega (arith, long of.0 of.1)) ∙ long of.0 of.1 ∙ sym (long claim.version claim.there)
    ∙ sym (length-sized claim.version (omega arith))

-- ---- where a place stands as copies that are cut have it

module _ (copies : List (List ℕ)) (payload : List ℕ) (place : Place) (h : StandsBetween copies payload place) where
  abbrev cut_copies : List (List ℕ)
  cut_copies = versions_at copies h.from h.to

  reach : AllReach copies place.end
  reach copy there = omega (arith, h.reach copy there, h.ends, h.within)

  claim_up : (start : ℕ) → IsClaimedStart cut_copies h.end start → IsClaimedAbove copies h.from place.end (h.from + start)
  claim_up start claim =
      claim_to copies place.end reach h.from (h.from + start) (omega arith)
      (subst (λ e. IsClaimedStart copies e (h.from + start)) (sym h.ends) (claim_out h.from h.to copies h.end start h.within claim))

  claim_down : (start : ℕ) → IsClaimedAbove copies h.from place.end start → IsClaimedStart cut_copies h.end (start - h.from)
  claim_down start claim =
      let above = claim.above in
      let at : start ≡ h.from + (start - h.from) = omega arith in
      claim_in h.from h.to copies h.end (start - h.from) h.within
      (subst (IsClaimedStart copies (h.from + h.end)) at
      (subst (λ e. IsClaimedStart copies e start) h.ends (claim_from copies place.end reach h.from start claim)))

  only_up : IsOnly (IsClaimedStart cut_copies h.end) h.start → IsOnly (IsClaimedAbove copies h.from place.end) place.start
  only_up only = record {
    there = subst (IsClaimedAbove copies h.from place.end) (sym h.starts) (claim_up h.start only.there);
    others = λ other claim. let same = only.others (other - h.from) (claim_down other claim) in let above = claim.above in omega (arith, h.starts);
  }

  two_up : IsOfTwo (IsClaimedStart cut_copies h.end) → IsOfTwo (IsClaimedAbove copies h.from place.end)
  two_up two = record {
    one = h.from + two.one;
    other = h.from + two.other;
    one_there = claim_up two.one two.one_there;
    other_there = claim_up two.other two.other_there;
    differ = λ same. two.differ (omega (arith, same));
  }

  versions_up : (start other : ℕ) → other ≡ h.from + start → versions_at cut_copies start h.end ≡ versions_at copies other place.end
  versions_up start other at =
      versions_of_versions h.from h.to copies start h.end h.within ∙ ap (versions_at copies (h.from + start)) (sym h.ends)
      ∙ ap (λ s. versions_at copies s place.end) (sym at)

  abbrev bytes : List ℕ
  bytes = slice_range payload place.start place.end

  module _ (whole : IsWholeSlice place.start place.end bytes) (long : place.start + length bytes ≡ place.end) where
    passes : PassesAsSlice bytes
    passes = let content = whole.content in (record { framed = whole.framed; content = omega arith }, whole.passes)

    -- what is woven up to the end of the place is what is woven up to where the slice ends
    woven_to_end : IsTriedUpTo copies h.from place.end place.start bytes
        → ((other : ℕ) (tried : List ℕ) → IsTriedUpTo copies h.from place.end other tried → PassesAsSlice tried → tried ≡ bytes)
        → ((other : ℕ) → IsClaimedAbove copies h.from place.end other → (tried : List ℕ) × IsTriedUpTo copies h.from place.end other tried)
        → IsWovenAt copies h.from place.start bytes
    woven_to_end tried only each = record {
      tried = subst (λ e. IsTriedUpTo copies h.from e place.start bytes) (sym long) tried;
      passes = passes;
      only = λ other more is right. only other more (subst (λ e. IsTriedUpTo copies h.from e other more) long is) right;
      each = λ other claim. let some = each other (subst (λ e. IsClaimedAbove copies h.from e other) long claim) in
          (some.0, subst (λ e. IsTriedUpTo copies h.from e other some.0) (sym long) some.1);
    }

    -- one start is claimed
    woven_alone : (only : IsOnly (IsClaimedStart cut_copies h.end) h.start) → IsOnly (IsValid Slice (versions_at cut_copies h.start h.end)) bytes
        → IsWovenAt copies h.from place.start bytes
    woven_alone only valid =
        let same = versions_up h.start place.start h.starts in
        let one = only_up only in
        let tried : IsTriedUpTo copies h.from place.end place.start bytes =
        alone one (subst (λ vs. IsTried vs bytes) same (valid_tried (versions_at cut_copies h.start h.end) bytes valid.there)) in
        woven_to_end tried (others one same) (λ other claim. (bytes, subst (λ s. IsTriedUpTo copies h.from place.end s bytes) (sym (one.others other claim)) tried))
      where
        others : IsOnly (IsClaimedAbove copies h.from place.end) place.start
            → versions_at cut_copies h.start h.end ≡ versions_at copies place.start place.end
            → (other : ℕ) (more : List ℕ) → IsTriedUpTo copies h.from place.end other more → PassesAsSlice more → more ≡ bytes
        others one same other more (alone single tried) right =
            let at : other ≡ place.start = one.others other single.there in
            let here : versions_at copies other place.end ≡ versions_at cut_copies h.start h.end = ap (λ s. versions_at copies s place.end) at ∙ sym same in
            valid.others more (tried_valid (versions_at cut_copies h.start h.end) more (subst (λ vs. IsTried vs more) here tried) right)
        others one same other more (several two claim tried) right =
            absurd (two.differ (one.others two.one two.one_there ∙ sym (one.others two.other two.other_there)))
        others one same other more (unclaimed none begins tried) right = absurd (none place.start one.there)

    -- several are claimed, and something comes of one alone
    module _ (count : ℕ) (w : IsWeaveOfSeveral cut_copies h.start h.end bytes count) where
      two : IsOfTwo (IsClaimedAbove copies h.from place.end)
      two = two_up w.several

      claim_here : IsClaimedAbove copies h.from place.end place.start
      claim_here = subst (IsClaimedAbove copies h.from place.end) (sym h.starts) (claim_up h.start w.claim)

      module _ (other : ℕ) (claim : IsClaimedAbove copies h.from place.end other) where
        start : ℕ
        start = other - h.from

        same : versions_at cut_copies (other - h.from) h.end ≡ versions_at copies other place.end
        same = let above = claim.above in versions_up (other - h.from) other (omega arith)

        valid_is : (more : List ℕ) → IsValid Slice (map sized (versions_at cut_copies (other - h.from) h.end)) more → more ≡ bytes
        valid_is more valid = elim (cases_eq (other - h.from) h.start) [
          | inl here ↦ w.weave'.0.others more (subst (λ s. IsValid Slice (map sized (versions_at cut_copies s h.end)) more) here valid)
          | inr apart ↦ absurd ((w.others (other - h.from) (claim_down other claim) apart).0 more valid)
        ]

        few : (n : ℕ) × AreFew (map sized (versions_at cut_copies (other - h.from) h.end)) n
        few = elim (cases_eq (other - h.from) h.start) [
          | inl here ↦ (
            get_or w.tried h.start 0,
            subst (λ s. AreFew (map sized (versions_at cut_copies s h.end)) (get_or w.tried h.start 0)) (sym here) w.weave'.1,
          )
          | inr apart ↦ (get_or w.tried (other - h.from) 0, (w.others (other - h.from) (claim_down other claim) apart).1)
        ]

        something : (tried : List ℕ) × IsTriedUpTo copies h.from place.end other tried
        something =
            let version = sized claim.version in
            let tried = version_tried (map sized (versions_at copies other place.end)) few.0
            (subst (λ vs. AreFew (map sized vs) few.0) same few.1) version (mapped_there sized (versions_at copies other place.end) claim.version claim.there)
            (sized_length copies place.end reach other claim) in
            (version, several two claim tried)

      of_several : (other : ℕ) (more : List ℕ) → IsTriedUpTo copies h.from place.end other more → PassesAsSlice more → more ≡ bytes
      of_several other more (alone only tried) right =
          absurd (two.differ (only.others two.one two.one_there ∙ sym (only.others two.other two.other_there)))
      of_several other more (several many claim tried) right =
          valid_is other claim more (tried_valid (map sized (versions_at cut_copies (other - h.from) h.end)) more
          (subst (λ vs. IsTried (map sized vs) more) (sym (same other claim)) tried) right)
      of_several other more (unclaimed none begins tried) right = absurd (none place.start claim_here)

      pub woven_of_several : IsWovenAt copies h.from place.start bytes
      woven_of_several =
          woven_to_end
          (several two claim_here (subst (λ vs. IsTried (map sized vs) bytes) (versions_up h.start place.start h.starts)
          (valid_tried (map sized (versions_at cut_copies h.start h.end)) bytes w.weave'.0.there)))
          of_several something

    -- none is
    module _ (begins : h.start ≡ 0) (count : ℕ) (w : IsWeaveFromFront cut_copies h.end (woven bytes count)) where
      none : IsOfNone (IsClaimedAbove copies h.from place.end)
      none start claim = w.no_claim (start - h.from) (claim_down start claim)

      front : versions_at cut_copies 0 h.end ≡ versions_at copies h.from place.end
      front = versions_up 0 h.from (omega arith)

      of_front : (other : ℕ) (more : List ℕ) → IsTriedUpTo copies h.from place.end other more → PassesAsSlice more → more ≡ bytes
      of_front other more (alone only tried) right = absurd (none other only.there)
      of_front other more (several many claim tried) right = absurd (none other claim)
      of_front other more (unclaimed no_claim at tried) right =
          w.weave'.0.others more (tried_valid (map sized (versions_at cut_copies 0 h.end)) more
          (subst (λ vs. IsTried (map sized vs) more) (ap (λ s. versions_at copies s place.end) at ∙ sym front) tried) right)

      pub woven_of_front : IsWovenAt copies h.from place.start bytes
      woven_of_front =
          let at : place.start ≡ h.from = omega (arith, h.starts, begins) in
          woven_to_end
          (unclaimed none at (subst (λ vs. IsTried (map sized vs) bytes) (front ∙ ap (λ s. versions_at copies s place.end) (sym at))
          (valid_tried (map sized (versions_at cut_copies 0 h.end)) bytes w.weave'.0.there)))
          of_front (λ other claim. absurd (none other claim))

    -- what stands settled or woven is a piece, or woven
    stands_so : (standing : Standing) → IsSettledOrWoven standing → StandsAs cut_copies h.start h.end bytes standing
        → (standing ≡ Settled → IsPiece copies place.end (link_of payload place.start place.end))
        → IsPieceAt copies place.start bytes ⊎ IsWovenAt copies h.from place.start bytes
    stands_so Settled right stands piece = inl (piece_to copies place.end reach (link_of payload place.start place.end) (piece refl))
    stands_so (Woven count) right (inl w) piece = inr (woven_alone w.claim w.weave'.0)
    stands_so (Woven count) right (inr (inl w)) piece = inr (woven_of_front w.0 count w.1)
    stands_so (Woven count) right (inr (inr w)) piece = inr (woven_of_several count w)
    stands_so standing right stands piece = absurd right

    pub stands_small : IsSettledOrWoven place.standing
        → (place.standing ≡ Settled → IsPiece copies place.end (link_of payload place.start place.end))
        → IsPieceAt copies place.start bytes ⊎ IsWovenAt copies h.from place.start bytes
    stands_small right = stands_so place.standing right h.stands
