-- What is asked of an original and its copies, as the small definitions have it, is asked of its links.
use Rattle.ffv1_splice.proofs.Common.{◌≡◌, ℕ, ◌+◌, ◌-◌, ◌<◌, ◌≤◌, List, [], ◌∷◌, ◌++◌, length, map, take, refl, sym, ap, ◌∙◌, subst, arith, inl, inr, ◌⊎◌, Contains, slice_range, append_assoc, append-nil, take_all, AreBytes, AreBytes-range, PassesParity, IsEnd, IsLinkOf, LinkValue, link_of, last, before, length-range, IsOfTwo, IsDamagedWithin32, IsAmongTried, AllReach, HasContent, IsClaimedStart, PieceFrom, versions_at, sized, AreCopiesOf, AreConsistentWith, HaveEachLink, AreWeavable, AreNearCopies}
use Rattle.std.specs.List.{flat_map}
use Rattle.ffv1_splice.specs.Small.{PassesAsSlice, StandEach, IsJoinedOf, IsPieceAt, IsOnlyFrom, IsOnlyUpTo, IsSettledAt, IsClaimedAbove, IsUncontradicted, IsWithinReach, IsNearAt}
use Rattle.ffv1_splice.specs.SmallNotions.{WeavableIsWithinReach, NearCopiesAreNear, EachLinkIsSettled}
use Rattle.ffv1_splice.proofs.Versions.{version_of}
use Rattle.ffv1_slice.proofs.Links.{end_within, same_cut}
use Rattle.ffv1_splice.proofs.SameBytes.{take_on}
use Rattle.ffv1_splice.proofs.WovenLaws.{framed_link}
use Rattle.ffv1_splice.proofs.SmallNear.{length_there, joined_weaker}
use Rattle.ffv1_splice.proofs.SmallClaims.{piece_to, piece_from, claim_to, claim_from}

-- ---- the links of a payload, as slices

-- the slice is a link there
pub record IsLinkAt (payload : List ℕ) (start : ℕ) (slice : List ℕ) : Type 0 where
  pub link : IsLinkOf payload start (start + length slice)
  pub bytes : slice ≡ slice_range payload start (start + length slice)

-- slices from an end of the payload on
record SlicesFrom (payload : List ℕ) (start : ℕ) : Type 0 where
  slices : List (List ℕ)
  joined : take start payload ++ flat_map (λ slice. slice) slices ≡ payload
  each : StandEach (IsLinkAt payload) start slices (length payload)

slices_from : (payload : List ℕ) (start : ℕ) → IsEnd payload start → SlicesFrom payload start
slices_from payload start last =
    record { slices = []; joined = append-nil (take (length payload) payload) ∙ take_all (length payload) payload (omega arith); each = refl }
slices_from payload start (before {q = next} is_end cut) =
    let rest = slices_from payload next is_end in
    let slice : List ℕ = slice_range payload start next in
    let within = end_within payload next is_end in
    let ends : next ≡ start + length slice = omega (arith, length-range payload start next (omega arith) within) in
    let on : take next payload ≡ take start payload ++ slice = take_on payload payload payload start next (omega arith) in
    record {
      slices = slice ∷ rest.slices;
      joined = sym (append_assoc (take start payload) slice (flat_map (λ z. z) rest.slices)) ∙ ap (λ z. z ++ flat_map (λ z. z) rest.slices) (sym on)
          ∙ rest.joined;
      each = (
        record {
          link = subst (IsLinkOf payload start) ends (record { is_end = is_end; cut = cut });
          bytes = ap (slice_range payload start) ends;
        },
        subst (λ e. StandEach (IsLinkAt payload) e rest.slices (length payload)) ends rest.each,
      );
    }

links_joined : (copies : List (List ℕ)) (original : List ℕ) → AreCopiesOf original copies → IsJoinedOf (IsLinkAt original) copies original
links_joined copies original of =
    let from = slices_from original 0 of.whole in
    record { slices = from.slices; joined = sym from.joined; each = from.each; one_length = of.one_length }

-- ---- a link of an original

module _ (copies : List (List ℕ)) (original : List ℕ) (of : AreCopiesOf original copies) where
  piece_within : (start : ℕ) (piece : List ℕ) → IsPieceAt copies start piece → start + length piece ≤ length original
  piece_within start piece is =
      let at = version_of copies start (start + length piece) piece is.there in
      let long = length_there at.0 start (start + length piece) in
      let same = ap length at.2 in
      let content : 8 < length piece = is.passes.0.content in
      omega (arith, of.one_length at.0 at.1)

  reach_to : (end : ℕ) → end ≤ length original → AllReach copies end
  reach_to end within copy there = omega (arith, of.one_length copy there)

  module _ (start : ℕ) (slice : List ℕ) (is : IsLinkAt original start slice) where
    abbrev end : ℕ
    end = start + length slice

    reach : AllReach copies end
    reach = reach_to end (end_within original end is.link.is_end)

    passes_at : HasContent start end → PassesParity (slice_range original start end) → PassesAsSlice slice
    passes_at content passes =
        subst PassesAsSlice (sym is.bytes) (
          record {
            framed = framed_link original start end is.link;
            content = omega (arith, ap length is.bytes);
          },
          passes,
        )

    ends_at : AreConsistentWith original copies → IsOnlyUpTo copies end slice
    ends_at agree other piece there ends =
        let at = agree end (record { start = other; bytes = piece }) is.link.is_end (piece_from copies end reach other piece ends there) in
        let same : other ≡ start = same_cut original other start end at.0.cut is.link.cut in
        ap (λ (z : LinkValue). z.bytes) at.1 ∙ ap (λ s. slice_range original s end) same ∙ sym is.bytes

    settled_at : AreConsistentWith original copies → HaveEachLink original copies → IsSettledAt copies start slice
    settled_at agree have = record {
      piece = subst (IsPieceAt copies start) (sym is.bytes) (piece_to copies end reach (link_of original start end) (have start end is.link));
      only = ends_at agree;
    }

    module _ (weavable : AreWeavable original copies) where
      claim : IsClaimedStart copies end start
      claim = weavable.claim start end is.link

      begins_at : IsOnlyFrom copies start slice
      begins_at piece there =
          let within = piece_within start piece there in
          let same = weavable.below start end (record { end = start + length piece; bytes = piece }) is.link within
          (piece_from copies (start + length piece) (reach_to (start + length piece) within) start piece refl there) in
          ap (λ (z : PieceFrom). z.bytes) same ∙ sym is.bytes

      uncontradicted_at : IsUncontradicted copies start slice
      uncontradicted_at = record {
        passes = passes_at claim.content (weavable.passes start end is.link);
        begins = begins_at;
        ends = ends_at weavable.agree;
      }

      within_reach_at : ((copy : List ℕ) → Contains copies copy → AreBytes copy) → IsWithinReach copies start slice
      within_reach_at bytes =
          let among = weavable.among start end is.link in
          record {
            claimed = claim_to copies end reach 0 start (omega arith) claim;
            among = subst (IsAmongTried (versions_at copies start end)) (sym is.bytes) (among.claimed claim);
            several = λ two. subst (IsAmongTried (map sized (versions_at copies start end))) (sym is.bytes)
                (among.several (two_from two) (λ version there.
                let at = version_of copies start end version there in
                subst AreBytes (sym at.2) (AreBytes-range at.0 start end (bytes at.0 at.1))));
          }
        where
          two_from : IsOfTwo (IsClaimedAbove copies 0 end) → IsOfTwo (IsClaimedStart copies end)
          two_from two = record {
            one = two.one;
            other = two.other;
            one_there = claim_from copies end reach 0 two.one two.one_there;
            other_there = claim_from copies end reach 0 two.other two.other_there;
            differ = two.differ;
          }

    near_at : AreNearCopies original copies → IsNearAt copies start slice
    near_at near = record {
      passes = passes_at (near.undamaged.content start end is.link) (near.undamaged.passes start end is.link);
      bytes = subst AreBytes (sym is.bytes) (AreBytes-range original start end near.undamaged.are_bytes);
      near = λ version there. by version there;
    }
      where
        by : (version : List ℕ) → Contains (versions_at copies start end) version
            → AreBytes version × ((version ≡ slice) ⊎ IsDamagedWithin32 slice version)
        by version there =
            let at = version_of copies start end version there in
            let copy = near.near at.0 at.1 in (
              subst AreBytes (sym at.2) (AreBytes-range at.0 start end copy.are_bytes),
              elim (copy.each start end is.link) [
                | inl intact ↦ inl (at.2 ∙ intact ∙ sym is.bytes)
                | inr damaged ↦ inr (subst (λ z. IsDamagedWithin32 z version) (sym is.bytes)
                    (subst (IsDamagedWithin32 (slice_range original start end)) (sym at.2) damaged))
              ],
            )

pub weavable_is_within_reach : WeavableIsWithinReach
weavable_is_within_reach copies original of weavable bytes =
    joined_weaker (IsLinkAt original) (λ start slice. IsUncontradicted copies start slice × IsWithinReach copies start slice)
    (λ start slice is. (uncontradicted_at copies original of start slice is weavable, within_reach_at copies original of start slice is weavable bytes))
    copies original (links_joined copies original of)

pub near_copies_are_near : NearCopiesAreNear
near_copies_are_near copies original near =
    let of : AreCopiesOf original copies =
    record { whole = near.undamaged.whole; one_length = λ copy there. (near.near copy there).same_length } in
    joined_weaker (IsLinkAt original) (IsNearAt copies) (λ start slice is. near_at copies original of start slice is near) copies original
    (links_joined copies original of)

pub each_link_is_settled : EachLinkIsSettled
each_link_is_settled copies original of agree have =
    joined_weaker (IsLinkAt original) (IsSettledAt copies) (λ start slice is. settled_at copies original of start slice is agree have) copies original
    (links_joined copies original of)
