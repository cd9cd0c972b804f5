-- The links of an original, and divisions whose places are links.
use Rattle.ffv1_slice.proofs.Links.{same_cut}
use Rattle.ffv1_splice.proofs.Common.{◌≡◌, ℕ, suc, ◌+◌, ◌-◌, ◌<◌, ◌≤◌, List, ◌∷◌, length, get_or, map, refl, sym, ap, ◌∙◌, subst, arith, inl, inr, All, slice_range, take_all, All-nil, All-cons, cases_lt, size_before, FooterGives, IsEnd, IsLinkOf, LinkValue, link_of, before, walked, walked-more, walked-none, walked-fuel, least_end, IsOfTwo, IsPiece, StandsAs, IsStop, SplicedValue, LieFrom, AreConsistentWith, Standing, Settled, Woven, Voted, Repaired, Disputed, Missing, Undivided, Place}
use Rattle.ffv1_splice.proofs.PlaceSteps.{unwoven_weave}
use Rattle.ffv1_splice.proofs.OneDivision.{woven_unsettled, missing_unsettled}
use Rattle.ffv1_splice.proofs.Walks.{IsSpliceBefore}
use Rattle.ffv1_splice.proofs.Walks.IsSpliceBefore.{stops, goes}
use Rattle.ffv1_splice.proofs.SameBytes.{same_down}

-- ---- the links of an original

-- a link ends at each end after the first byte
pub link_at : (original : List ℕ) → IsEnd original 0 → (end : ℕ) → IsEnd original end → 0 < end → (start : ℕ) × FooterGives original start end
link_at original whole end is_end after =
    elim (cases_lt end (size_before original end + 8)) [
      | inl short ↦ absurd (omega (arith, least_end original end is_end (λ p cut. omega arith) 0 whole))
      | inr fits ↦ (end - (size_before original end + 8), omega arith)
    ]

-- ---- a division whose places are links

-- what is so of the places before an end of the original
pub record AreLinkPlaces (original : List ℕ) (end : ℕ) (places : List Place) (front : ℕ) : Type 0 where
  pub links : map (λ place. link_of original place.start place.end) places ≡ walked end original end
  pub whole : front ≡ 0
  pub each : All (λ place. IsLinkOf original place.start place.end) places

module _ (original : List ℕ) (copies : List (List ℕ)) (cuts : (start end : ℕ) (bytes : List ℕ) (standing : Standing) → IsEnd original end
    → StandsAs copies start end bytes standing → FooterGives original start end) where
  pub link_places : (end : ℕ) (places : List Place) (front : ℕ) (payload : List ℕ)
      → ((stop : ℕ) → IsEnd original stop → 0 < stop → IsStop copies stop → stop ≡ front → ⊥)
      → IsEnd original end → IsSpliceBefore copies end places front payload → AreLinkPlaces original end places front
  link_places end places front payload goes_on is_end (stops stop least) = grind (arith, cases_lt, walked-none, All-nil)
  link_places end places front payload goes_on is_end (goes {start = start} {standing = standing} {places = more} {before = rest} bytes stands h) =
      let cut : FooterGives original start end = cuts start end bytes standing is_end stands in
      let below = link_places start more front rest goes_on (before is_end cut) h in
      record {
        links = ap (λ z. link_of original start end ∷ z) below.links
            ∙ sym (walked-fuel original end (suc end) end (omega arith) (omega arith) ∙ walked-more original end start end cut
            ∙ ap (λ z. link_of original start end ∷ z) (walked-fuel original end start start (omega arith) (omega arith)));
        whole = below.whole;
        each = grind (arith, All-cons);
      }

-- the same bytes at places that are links from the end to the first byte
pub same_payload : (original : List ℕ) (spliced : SplicedValue) (end : ℕ) → AreLinkPlaces original end spliced.places spliced.front
    → LieFrom (length spliced.payload) spliced.places spliced.front → length spliced.payload ≡ length original
    → All (λ place. slice_range spliced.payload place.start place.end ≡ slice_range original place.start place.end) spliced.places
    → spliced.payload ≡ original
same_payload original spliced end places lie long same =
    sym (take_all (length spliced.payload) spliced.payload (omega arith))
    ∙ same_down spliced.payload original (length spliced.payload) spliced.places 0
    (subst (LieFrom (length spliced.payload) spliced.places) places.whole lie) upright same refl
    ∙ take_all (length spliced.payload) original (omega (arith, long))
  where
    upright : All (λ place. place.start ≤ place.end) spliced.places
    upright k d lt =
        let place : Place = get_or spliced.places k d in
        let cut : FooterGives original place.start place.end = (places.each k d lt).cut in
        omega arith

-- ---- copies that agree

module _ (original : List ℕ) (copies : List (List ℕ)) (agree : AreConsistentWith original copies) where
  -- two pieces do not differ
  pub agree_one : (end : ℕ) (one other : LinkValue) → IsEnd original end → IsPiece copies end one → IsPiece copies end other → one ≡ other
  agree_one end one other is_end h k = grind (arith, same_cut)

  pub undisputed : (end : ℕ) → IsEnd original end → IsOfTwo (IsPiece copies end) → ⊥
  undisputed end is_end two = two.differ (agree_one end two.one two.other is_end two.one_there two.other_there)

  pub settled_link : (start end : ℕ) (bytes : List ℕ) (standing : Standing) → IsEnd original end → standing ≡ Settled
      → StandsAs copies start end bytes standing → IsLinkOf original start end × (bytes ≡ slice_range original start end)
  settled_link start end bytes Settled is_end is h =
      let claim = agree end (record { start = start; bytes = bytes }) is_end h.there in (claim.0, ap (λ (p : LinkValue). p.bytes) claim.1)
  settled_link start end bytes standing is_end is h = absurd (cc)

  -- where a link is a piece, it settles its place
  pub settled_where : (start end : ℕ) (bytes : List ℕ) (standing : Standing) (link : ℕ) → IsEnd original end → IsPiece copies end (link_of original link end)
      → StandsAs copies start end bytes standing → standing ≡ Settled
  settled_where start end bytes Settled link is_end piece h = refl
  settled_where start end bytes (Woven count) link is_end piece h = absurd (woven_unsettled copies end start bytes count h (link_of original link end) piece)
  settled_where start end bytes (Voted count) link is_end piece h =
      absurd ((unwoven_weave copies start end h.unwoven).1.none (link_of original link end) piece)
  settled_where start end bytes (Repaired count) link is_end piece h = absurd (h.missed.none (link_of original link end) piece)
  settled_where start end bytes Disputed link is_end piece h =
      elim h.0 [ inl two ↦ absurd (undisputed end is_end two) | inr w ↦ absurd (w.none (link_of original link end) piece) ]
  settled_where start end bytes Missing link is_end piece h =
      absurd (missing_unsettled copies end start h.0 (link_of original link end) piece)
  settled_where start end bytes Undivided link is_end piece h = absurd h
