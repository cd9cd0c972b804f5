-- An original that is cut to the bytes from one end of its slices up to another, and its copies that are cut there too.
use Rattle.ffv1_slice.proofs.Links.{end_within, same_cut}
use Rattle.ffv1_splice.proofs.Common.{◌≡◌, ℕ, ◌+◌, ◌-◌, ◌<◌, ◌≤◌, List, [], ◌∷◌, length, map, sym, ap, ◌∙◌, subst, arith, refl, inl, inr, ◌⊎◌, ◌↔◌, All, Contains, slice_range, All-head, All-tail, PassesParity, AreBytes-range, FooterGives, IsEnd, IsLinkOf, link_of, last, before, IsOfTwo, IsDamagedWithin32, walked, walk_at, walked-none, turn_some, length-range, HasContent, IsClaimedStart, versions_at, LieFrom, AreCopiesOf, AreConsistentWith, IsTriedAt, AreWeavable, IsUndamaged, IsNearCopy, AreNearCopies, IsIntactInSome, Place}
use Rattle.ffv1_splice.proofs.Versions.{version_there, version_of}
use Rattle.ffv1_splice.proofs.Narrowed.{range_of_range, cut_out, cut_in, versions_of_versions, piece_out, claim_in, claim_out}

-- What makes copies weavable, except that no piece contradicts the original from below: as much as a division rests on.
pub record AreWeavableDown (original : List ℕ) (copies : List (List ℕ)) : Type 0 where
  pub agree : AreConsistentWith original copies
  pub claim : (start end : ℕ) → IsLinkOf original start end → IsClaimedStart copies end start
  pub passes : (start end : ℕ) → IsLinkOf original start end → PassesParity (slice_range original start end)
  pub among : (start end : ℕ) → IsLinkOf original start end → IsTriedAt copies start end (slice_range original start end)

-- ---- what the copies have of a link

module _ (from to : ℕ) (copies : List (List ℕ)) (start end : ℕ) (slice : List ℕ) (within : from + end ≤ to) where
  -- two starts that are claimed in what the copies have from a place on are claimed in the copies
  two_out : IsOfTwo (IsClaimedStart (versions_at copies from to) end) → IsOfTwo (IsClaimedStart copies (from + end))
  two_out two =
      record {
        one = from + two.one;
        other = from + two.other;
        one_there = claim_out from to copies end two.one within two.one_there;
        other_there = claim_out from to copies end two.other within two.other_there;
        differ = λ same. two.differ (omega arith);
      }

  pub tried_narrowed : IsTriedAt copies (from + start) (from + end) slice → IsTriedAt (versions_at copies from to) start end slice
  tried_narrowed tried =
      let same = sym (versions_of_versions from to copies start end within) in
      record {
        claimed = λ claim. rw (← same) (tried.claimed (claim_out from to copies end start within claim));
        unclaimed = λ content no_claim. rw (← same)
            (tried.unclaimed (let content : HasContent start end = content in omega arith) (λ claim. no_claim (claim_in from to copies end start within claim)));
        several = λ two are_bytes. rw (← same) (tried.several (two_out two) (λ version there. are_bytes version (rw (← same) there)));
      }

module _ (from to : ℕ) (original : List ℕ) (copies : List (List ℕ)) (start end : ℕ) (within : from + end ≤ to) where
  pub link_narrowed : IsTriedAt copies (from + start) (from + end) (slice_range original (from + start) (from + end))
      → IsTriedAt (versions_at copies from to) start end (slice_range (slice_range original from to) start end)
  link_narrowed tried = grind (arith, tried_narrowed, range_of_range)

  -- some cut copy has the link intact exactly where some copy has it
  pub intact_narrowed : IsIntactInSome (slice_range original from to) (versions_at copies from to) start end
      ↔ IsIntactInSome original copies (from + start) (from + end)
  intact_narrowed = (
    λ intact.
        let of = version_of copies from to intact.0 intact.1 in (
          of.0,
          of.1,
          sym (ap (λ copy. slice_range copy start end) of.2 ∙ range_of_range from to of.0 start end within) ∙ intact.2
              ∙ range_of_range from to original start end within,
        ),
    λ intact. (
      slice_range intact.0 from to,
      version_there copies from to intact.0 intact.1,
      range_of_range from to intact.0 start end within ∙ intact.2 ∙ sym (range_of_range from to original start end within),
    ),
  )

-- ---- the ends back from an end

data IsBackFrom (original : List ℕ) (top : ℕ) : ℕ → Type 0 where
  here : IsBackFrom original top top
  more : {start end : ℕ} → IsBackFrom original top end → FooterGives original start end → IsBackFrom original top start

-- the first step back
first_back : (original : List ℕ) (top end : ℕ) → IsBackFrom original top end
    → (end ≡ top) ⊎ ((start : ℕ) × FooterGives original start top × IsBackFrom original start end)
first_back original top end here = inl refl
first_back original top end (more {end = next} back cut) =
    elim (first_back original top next back) [
      | inl same ↦ inr (end, subst (FooterGives original end) same cut, here)
      | inr w ↦ inr (w.0, w.1, more w.2 cut)
    ]

back_from_last : (original : List ℕ) (end : ℕ) → IsEnd original end → IsBackFrom original (length original) end
back_from_last original end last = here
back_from_last original end (before {q = q} h cut) = more (back_from_last original q h) cut

-- of two ends the lesser is reached from the other
back_from : (original : List ℕ) (top end : ℕ) → IsEnd original top → IsEnd original end → end ≤ top → IsBackFrom original top end
back_from original top end last is_end below = back_from_last original end is_end
back_from original top end (before {q = q} h cut) is_end below = grind (arith, first_back, same_cut, back_from original q end h is_end (omega arith))

-- a link begins at each end before another one, and ends no later
pub next_end : (original : List ℕ) (start top : ℕ) → IsEnd original top → IsEnd original start → start < top
    → (end : ℕ) × IsLinkOf original start end × (end ≤ top)
next_end original start top is_top is_end below = of_back start (back_from original top start is_top is_end (omega arith)) below
  where
    within : (end : ℕ) → IsBackFrom original top end → end ≤ top
    within end here = omega arith
    within end (more {end = next} back cut) = let rest = within next back in omega arith

    is_end_back : (end : ℕ) → IsBackFrom original top end → IsEnd original end
    is_end_back end here = is_top
    is_end_back end (more {end = next} back cut) = before (is_end_back next back) cut

    of_back : (place : ℕ) → IsBackFrom original top place → place < top → (end : ℕ) × IsLinkOf original place end × (end ≤ top)
    of_back place here low = absurd (omega arith)
    of_back place (more {end = next} back cut) low = (next, record { is_end = is_end_back next back; cut = cut }, within next back)

-- ---- the ends and links of the cut original

module _ (from to : ℕ) (original : List ℕ) (order : from ≤ to) (is_to : IsEnd original to) where
  -- the cut original reaches to that end
  narrowed_length : from + length (slice_range original from to) ≡ to
  narrowed_length = omega (arith, length-range original from to order (end_within original to is_to))

  pub narrowed_within : (end : ℕ) → IsEnd (slice_range original from to) end → from + end ≤ to
  narrowed_within end h = omega (arith, narrowed_length, end_within (slice_range original from to) end h)

  pub end_out : (end : ℕ) → IsEnd (slice_range original from to) end → IsEnd original (from + end)
  end_out end last = subst (IsEnd original) (sym narrowed_length) is_to
  end_out end (before {q = q} h cut) = before (end_out q h) (cut_out from to original end q (narrowed_within q h) cut)

  -- what is reached back from that end is an end of the cut original, at its place there
  end_in_back : (place : ℕ) → IsBackFrom original to place → (end : ℕ) → place ≡ from + end → IsEnd (slice_range original from to) end
  end_in_back place here end is = subst (IsEnd (slice_range original from to)) (omega (arith, narrowed_length)) last
  end_in_back place (more {end = next} back cut) end is =
      let on : next ≡ from + (next - from) = omega arith in
      let is_end = end_in_back next back (next - from) on in
      let moved : FooterGives original (from + end) (from + (next - from)) = grind arith in
      before is_end (cut_in from to original end (next - from) (narrowed_within (next - from) is_end) moved)

  pub end_in : (end : ℕ) → from + end ≤ to → IsEnd original (from + end) → IsEnd (slice_range original from to) end
  end_in end within is_end = end_in_back (from + end) (back_from original to (from + end) is_to is_end within) end refl

  pub link_out : (start end : ℕ) → IsLinkOf (slice_range original from to) start end → IsLinkOf original (from + start) (from + end)
  link_out start end link =
      record { is_end = end_out end link.is_end; cut = cut_out from to original start end (narrowed_within end link.is_end) link.cut }

  pub link_in : (start end : ℕ) → from + end ≤ to → IsLinkOf original (from + start) (from + end) → IsLinkOf (slice_range original from to) start end
  link_in start end within link =
      record { is_end = end_in end within link.is_end; cut = cut_in from to original start end within link.cut }

  -- ---- the premises of the laws on copies

  pub whole_narrowed : IsEnd original from → IsEnd (slice_range original from to) 0
  whole_narrowed is_from = grind (arith, end_in)

  -- each link of the cut original passes its parity where each link of the original does
  pub passes_narrowed : ((start end : ℕ) → IsLinkOf original start end → PassesParity (slice_range original start end))
      → (start end : ℕ) → IsLinkOf (slice_range original from to) start end → PassesParity (slice_range (slice_range original from to) start end)
  passes_narrowed passes start end link =
      rw (range_of_range from to original start end (narrowed_within end link.is_end)) (passes (from + start) (from + end) (link_out start end link))

  pub undamaged_narrowed : IsEnd original from → IsUndamaged original → IsUndamaged (slice_range original from to)
  undamaged_narrowed is_from undamaged =
      record {
        whole = whole_narrowed is_from;
        are_bytes = AreBytes-range original from to undamaged.are_bytes;
        content = λ start end link.
            let content : HasContent (from + start) (from + end) = undamaged.content (from + start) (from + end) (link_out start end link) in
            omega arith;
        passes = passes_narrowed undamaged.passes;
      }

  length_narrowed : (copy : List ℕ) → length copy ≡ length original → length (slice_range copy from to) ≡ length (slice_range original from to)
  length_narrowed copy same = grind (arith, length-range, end_within, narrowed_length)

  near_copy_narrowed : (copy : List ℕ) → IsNearCopy original copy → IsNearCopy (slice_range original from to) (slice_range copy from to)
  near_copy_narrowed copy near =
      record {
        are_bytes = AreBytes-range copy from to near.are_bytes;
        same_length = length_narrowed copy near.same_length;
        each = λ start end link.
            let within = narrowed_within end link.is_end in
            let mine = sym (range_of_range from to copy start end within) in
            let yours = sym (range_of_range from to original start end within) in
            elim (near.each (from + start) (from + end) (link_out start end link)) [
              | inl intact ↦ inl (sym mine ∙ intact ∙ yours)
              | inr damaged ↦ grind (arith, IsDamagedWithin32)
            ];
      }

  module _ (copies : List (List ℕ)) where
    pub copies_narrowed : IsEnd original from → ((copy : List ℕ) → Contains copies copy → length copy ≡ length original)
        → AreCopiesOf (slice_range original from to) (versions_at copies from to)
    copies_narrowed is_from one_length =
        record {
          whole = whole_narrowed is_from;
          one_length = λ version there.
              let of = version_of copies from to version there in
              ap length of.2 ∙ length_narrowed of.0 (one_length of.0 of.1);
        }

    pub agree_narrowed : AreConsistentWith original copies → AreConsistentWith (slice_range original from to) (versions_at copies from to)
    agree_narrowed agree end piece is_end h =
        let within = narrowed_within end is_end in
        let claim = agree (from + end) (record { start = from + piece.start; bytes = piece.bytes }) (end_out end is_end)
        (piece_out from to copies end piece within h) in
        let bytes : piece.bytes ≡ slice_range (slice_range original from to) piece.start end = grind (arith, range_of_range) in
        (link_in piece.start end within claim.0, ap (λ z. record { start = piece.start; bytes = z }) bytes)

    pub weavable_narrowed : AreWeavable original copies → AreWeavableDown (slice_range original from to) (versions_at copies from to)
    weavable_narrowed weavable =
        record {
          agree = agree_narrowed weavable.agree;
          claim = λ start end link. claim_in from to copies end start (narrowed_within end link.is_end)
              (weavable.claim (from + start) (from + end) (link_out start end link));
          passes = passes_narrowed weavable.passes;
          among = λ start end link. link_narrowed from to original copies start end (narrowed_within end link.is_end)
              (weavable.among (from + start) (from + end) (link_out start end link));
        }

    pub near_narrowed : IsEnd original from → AreNearCopies original copies → AreNearCopies (slice_range original from to) (versions_at copies from to)
    near_narrowed is_from near =
        record {
          undamaged = undamaged_narrowed is_from near.undamaged;
          near = λ version there.
              let of = version_of copies from to version there in
              subst (IsNearCopy (slice_range original from to)) (sym of.2) (near_copy_narrowed of.0 (near.near of.0 of.1));
        }

-- ---- places that are links

-- places that lie end to end down to the first byte, each a link, are all links from their end on
pub links_of_places : (original : List ℕ) (end : ℕ) (places : List Place) → LieFrom end places 0
    → All (λ place. IsLinkOf original place.start place.end) places
    → map (λ place. link_of original place.start place.end) places ≡ walked end original end
links_of_places original end [] lie links = grind (arith, walked-none)
links_of_places original end (place ∷ places) lie links =
    let link = All-head (λ place. IsLinkOf original place.start place.end) place places links in
    let rest = links_of_places original place.start places lie.1 (All-tail (λ place. IsLinkOf original place.start place.end) place places links) in
    cc (turn_some (walk_at original place.end) original place.start place.end refl link.cut)
