-- An original that is settled from the copies, as the small definitions have it, is given back.
use Rattle.ffv1_splice.proofs.Common.{◌≡◌, ℕ, ◌+◌, ◌-◌, ◌<◌, ◌≤◌, List, [], ◌∷◌, ◌++◌, length, sym, ap, ◌∙◌, subst, arith, slice_range, append_assoc, append-nil, flat_map-append, length-append, length-range, size_before, FooterGives, IsEnd, IsLinkOf, IsFramed, last, before, AllReach, IsSettledOrWoven, AreCopiesOf, AreConsistentWith, HaveEachLink}
use Rattle.std.specs.List.{flat_map}
use Rattle.ffv1_slice.proofs.Places.{size_in, range_in}
use Rattle.ffv1_splice.specs.Small.{PassesAsSlice, StandEach, IsJoinedOf, IsSettledAt}
use Rattle.ffv1_splice.specs.SmallNotions.{SettledIsGivenBack}
use Rattle.ffv1_slice.proofs.Links.{end_within, same_cut}
use Rattle.ffv1_splice.proofs.DividedLinks.{link_at}
use Rattle.ffv1_splice.proofs.OriginalLaws.{original_is_spliced}
use Rattle.ffv1_splice.proofs.StandingSlices.{LastOf, last_of}
use Rattle.ffv1_splice.proofs.SmallSplices.{passing_long}
use Rattle.ffv1_splice.proofs.SmallClaims.{piece_ends, piece_to, piece_from}

abbrev joined : List (List ℕ) → List ℕ
joined slices = flat_map (λ slice. slice) slices

-- the footer of a slice in the middle of a payload gives where it begins
cut_in : (payload front slice back : List ℕ) → payload ≡ front ++ (slice ++ back) → IsFramed slice
    → FooterGives payload (length front) (length front + length slice)
cut_in payload front slice back whole framed =
    let footer : 8 ≤ length slice = framed.footer in
    let own = framed.size in
    let size : size_before payload (length front + length slice) ≡ size_before slice (length slice) =
    ap (λ z. size_before z (length front + length slice)) whole ∙ size_in front slice back footer in
    omega arith

-- ---- slices that stand in a payload, and its links

module _ (Is : ℕ → List ℕ → Type 0) (passes : (start : ℕ) (slice : List ℕ) → Is start slice → PassesAsSlice slice) where
  long : (start : ℕ) (slice : List ℕ) → Is start slice → 0 < length slice
  long start slice is = passing_long slice (passes start slice is)

  stand_length : (start : ℕ) (slices : List (List ℕ)) (top : ℕ) → StandEach Is start slices top → start + length (joined slices) ≡ top
  stand_length start [] top each = omega (arith, each)
  stand_length start (slice ∷ slices) top each =
      omega (arith, stand_length (start + length slice) slices top each.1, length-append slice (joined slices))

  module _ (payload : List ℕ) (slices : List (List ℕ)) (is : payload ≡ joined slices) (each : StandEach Is 0 slices (length payload)) where
    -- Slices stand up to an end, and after it others.
    pub record IsReached (end : ℕ) : Type 0 where
      pub first : List (List ℕ)
      pub rest : List (List ℕ)
      pub all : slices ≡ first ++ rest
      pub stand : StandEach Is 0 first end

    -- the last of them is a link there
    pub record IsLinkTo (end : ℕ) (of : IsReached end) : Type 0 where
      pub last_is : LastOf Is 0 of.first end
      pub cut : FooterGives payload last_is.at end
      pub bytes : slice_range payload last_is.at end ≡ last_is.slice

    pub link_to : (end : ℕ) (of : IsReached end) → 0 < end → IsLinkTo end of
    link_to end of after =
        let final = last_of Is long 0 of.first end of.stand after in
        let front : List ℕ = joined final.first in
        let at : length front ≡ final.at = omega (arith, stand_length 0 final.first final.at final.each) in
        let whole : payload ≡ front ++ (final.slice ++ joined of.rest) =
        is ∙ ap joined (of.all ∙ ap (λ z. z ++ of.rest) final.is ∙ append_assoc final.first (final.slice ∷ []) of.rest)
        ∙ flat_map-append (λ (slice : List ℕ). slice) final.first (final.slice ∷ of.rest) in
        let framed : IsFramed final.slice = (passes final.at final.slice final.last).0.framed in
        let ends : length front + length final.slice ≡ end = omega (arith, final.ends) in
        record {
          last_is = final;
          cut = subst (λ s. FooterGives payload s end) at
              (subst (FooterGives payload (length front)) ends (cut_in payload front final.slice (joined of.rest) whole framed));
          bytes = ap (λ s. slice_range payload s end) (sym at) ∙ ap (slice_range payload (length front)) (sym ends)
              ∙ ap (λ z. slice_range z (length front) (length front + length final.slice)) whole ∙ range_in front final.slice (joined of.rest);
        }

    pub reached : (end : ℕ) → IsEnd payload end → IsReached end
    reached end last = record { first = slices; rest = []; all = sym (append-nil slices); stand = each }
    reached end (before {q = next} is_end cut) =
        let of = reached next is_end in
        let to = link_to next of (omega arith) in
        let same : to.last_is.at ≡ end = same_cut payload to.last_is.at end next to.cut cut in
        record {
          first = to.last_is.first;
          rest = to.last_is.slice ∷ of.rest;
          all = of.all ∙ ap (λ z. z ++ of.rest) to.last_is.is ∙ append_assoc to.last_is.first (to.last_is.slice ∷ []) of.rest;
          stand = subst (StandEach Is 0 to.last_is.first) same to.last_is.each;
        }

    -- each link is one of the slices
    pub link_is : (start end : ℕ) → IsLinkOf payload start end → Is start (slice_range payload start end)
    link_is start end link =
        let cut : FooterGives payload start end = link.cut in
        let to = link_to end (reached end link.is_end) (omega arith) in
        let same : to.last_is.at ≡ start = same_cut payload to.last_is.at start end to.cut cut in
        subst (Is start) (sym (ap (λ s. slice_range payload s end) (sym same) ∙ to.bytes)) (subst (λ s. Is s to.last_is.slice) same to.last_is.last)

-- the chain of slices that are joined is whole
chain : (Is : ℕ → List ℕ → Type 0) → ((start : ℕ) (slice : List ℕ) → Is start slice → PassesAsSlice slice) → (payload front : List ℕ) (slices : List (List ℕ))
    → payload ≡ front ++ joined slices → StandEach Is (length front) slices (length payload) → IsEnd payload (length front)
chain Is passes payload front [] whole each = subst (IsEnd payload) (sym each) last
chain Is passes payload front (slice ∷ slices) whole each =
    let long : length (front ++ slice) ≡ length front + length slice = length-append front slice in
    let next : IsEnd payload (length (front ++ slice)) =
    chain Is passes payload (front ++ slice) slices (whole ∙ sym (append_assoc front slice (joined slices)))
    (subst (λ n. StandEach Is n slices (length payload)) (sym long) each.1) in
    before (subst (IsEnd payload) long next) (cut_in payload front slice (joined slices) whole (passes (length front) slice each.0).0.framed)

-- ---- an original that is settled

module _ (copies : List (List ℕ)) (original : List ℕ) (is : IsJoinedOf (IsSettledAt copies) copies original) where
  settled_passes : (start : ℕ) (slice : List ℕ) → IsSettledAt copies start slice → PassesAsSlice slice
  settled_passes start slice settled = settled.piece.passes

  reach_to : (end : ℕ) → IsEnd original end → AllReach copies end
  reach_to end is_end copy there = omega (arith, is.one_length copy there, end_within original end is_end)

  whole_chain : IsEnd original 0
  whole_chain = chain (IsSettledAt copies) settled_passes original [] is.slices is.joined is.each

  settled_link : (start end : ℕ) → IsLinkOf original start end → IsSettledAt copies start (slice_range original start end)
  settled_link = link_is (IsSettledAt copies) settled_passes original is.slices is.joined is.each

  link_long : (start end : ℕ) → IsLinkOf original start end → start + length (slice_range original start end) ≡ end
  link_long start end link =
      let within = end_within original end link.is_end in
      let cut : FooterGives original start end = link.cut in
      omega (arith, length-range original start end (omega arith) within)

  copies_of : AreCopiesOf original copies
  copies_of = record { whole = whole_chain; one_length = is.one_length }

  agree : AreConsistentWith original copies
  agree end piece is_end there =
      let cut : FooterGives there.copy piece.start end = there.cut in
      let reach = reach_to end is_end in
      let at = link_at original whole_chain end is_end (omega arith) in
      let link : IsLinkOf original at.0 end = record { is_end = is_end; cut = at.1 } in
      let own : List ℕ = slice_range original at.0 end in
      let long = link_long at.0 end link in
      let ends = piece_ends copies end reach piece there in
      let same : piece.bytes ≡ own =
      (settled_link at.0 end link).only piece.start piece.bytes (piece_to copies end reach piece there) (ends ∙ sym long) in
      let start : piece.start ≡ at.0 = omega (arith, ap length same) in (
        subst (λ s. IsLinkOf original s end) (sym start) link,
        (λ i. record { start = piece.start; bytes = same i }) ∙ ap (λ s. record { start = piece.start; bytes = slice_range original s end }) (sym start),
      )

  have : HaveEachLink original copies
  have start end link =
      piece_from copies end (reach_to end link.is_end) start (slice_range original start end) (link_long start end link)
      (settled_link start end link).piece

pub settled_is_given_back : SettledIsGivenBack
settled_is_given_back copies original spliced is splice =
    let given = original_is_spliced original copies spliced (copies_of copies original is) (agree copies original is) (have copies original is) splice in
    (given.payload, (given.places.whole, λ k d lt. subst IsSettledOrWoven (sym (given.settled k d lt)) tt))
