-- A frame that is given back is spliced from the copies, as the small definitions have it.
use Rattle.ffv1_splice.proofs.Common.{◌≡◌, ℕ, ◌+◌, ◌-◌, ◌≤◌, List, [], ◌∷◌, ◌++◌, length, get_or, map, take, refl, sym, ap, ◌∙◌, subst, arith, inl, inr, ◌⊎◌, All, Contains, slice_range, reverse, append_assoc, append-nil, flat_map-append, take_all, reverse-append, length-range, All-head, All-tail, All-map, All-contains_itself, LinkValue, link_of, AllReach, IsPiece, IsClaimedStart, versions_at, SplicedValue, LieFrom, RiseFrom, IsSettledDown, IsCrossed, IsSpliceOf, moved_by, hole_places, IsSettledOrWoven, IsGivenBack, Settled, Place}
use Rattle.std.specs.List.{flat_map}
use Rattle.std.proofs.lemmas.List.{reverse-reverse}
use Rattle.ffv1_splice.specs.Small.{StandEach, IsPieceAt, IsOnlyUpTo, IsClaimedAbove, IsWovenAt, IsWovenUpward, IsSplicedFrom}
use Rattle.ffv1_splice.specs.SmallNotions.{GivenBackIsSpliced}
use Rattle.ffv1_splice.proofs.PlaceLists.{All-reverse, All-left, All-right, lie_moved}
use Rattle.ffv1_splice.proofs.Crossings.{rise_append}
use Rattle.ffv1_splice.proofs.Narrowed.{claim_in}
use Rattle.ffv1_splice.proofs.SplicePlaces.{lower, lower_rise, all_lower, after_above, all_of_hole, copy_at_hand, end_within, hole_length, places_within}
use Rattle.ffv1_splice.proofs.BoundSteps.{bound_within}
use Rattle.ffv1_splice.proofs.SameBytes.{take_on}
use Rattle.ffv1_splice.proofs.StandingPlaces.{StandsBetween, between_hole, between_crossed, settled_piece, hole_given_back}
use Rattle.ffv1_splice.proofs.WholeFrames.{IsWholeSlice, all_slices}
use Rattle.ffv1_splice.proofs.SmallClaims.{piece_ends, piece_to, claim_from}
use Rattle.ffv1_splice.proofs.SmallWoven.{stands_small}

-- ---- places that rise, as slices

-- places that lie rise in the other order
rise_reverse : (end : ℕ) (places : List Place) (front : ℕ) → LieFrom end places front → RiseFrom front (reverse places) end
rise_reverse end [] front lie = sym lie
rise_reverse end (place ∷ places) front lie =
    subst (λ z. RiseFrom front z end) (sym (reverse-append (place ∷ []) places))
    (rise_append front place.start end (reverse places) (place ∷ []) (rise_reverse place.start places front lie.1) (refl, lie.0))

module _ (payload : List ℕ) where
  -- what stands at a place
  abbrev slice_at : Place → List ℕ
  slice_at place = slice_range payload place.start place.end

  abbrev IsInside : Place → Type 0
  IsInside place = place.start ≤ place.end × place.end ≤ length payload

  slice_ends : (place : Place) → IsInside place → place.start + length (slice_at place) ≡ place.end
  slice_ends place inside = omega (arith, length-range payload place.start place.end inside.0 inside.1)

  stand_rise : (Is : ℕ → List ℕ → Type 0) (start : ℕ) (places : List Place) (top : ℕ) → RiseFrom start places top
      → All (λ place. IsInside place × Is place.start (slice_at place)) places → StandEach Is start (map slice_at places) top
  stand_rise Is start [] top rise all = rise
  stand_rise Is start (place ∷ places) top rise all =
      let here : IsInside place × Is place.start (slice_at place) = All-head (λ place. IsInside place × Is place.start (slice_at place)) place places all in
      let rest = stand_rise Is place.end places top rise.1 (All-tail (λ place. IsInside place × Is place.start (slice_at place)) place places all) in
      let ends : place.end ≡ start + length (slice_at place) = sym (slice_ends place here.0) ∙ ap (λ s. s + length (slice_at place)) rise.0 in (
        subst (λ s. Is s (slice_at place)) rise.0 here.1,
        subst (λ e. StandEach Is e (map slice_at places) top) ends rest,
      )

  joined_rise : (start : ℕ) (places : List Place) (top : ℕ) → RiseFrom start places top → All (λ place. place.start ≤ place.end) places
      → take start payload ++ flat_map (λ slice. slice) (map slice_at places) ≡ take top payload
  joined_rise start [] top rise up = append-nil (take start payload) ∙ ap (λ n. take n payload) rise
  joined_rise start (place ∷ places) top rise up =
      let here : place.start ≤ place.end = All-head (λ place. place.start ≤ place.end) place places up in
      let rest = joined_rise place.end places top rise.1 (All-tail (λ place. place.start ≤ place.end) place places up) in
      sym (append_assoc (take start payload) (slice_at place) (flat_map (λ slice. slice) (map slice_at places)))
      ∙ ap (λ z. z ++ flat_map (λ slice. slice) (map slice_at places))
      (ap (λ s. take s payload ++ slice_at place) (sym rise.0) ∙ sym (take_on payload payload payload place.start place.end here)) ∙ rest

-- ---- the places of a frame that is given back

module _ (copies : List (List ℕ)) (spliced : SplicedValue) (is : IsSpliceOf copies spliced) (given : IsGivenBack spliced) where
  abbrev slice_of : Place → List ℕ
  slice_of place = slice_range spliced.payload place.start place.end

  -- what is so of each place
  pub record IsRight (place : Place) : Type 0 where
    pub inside : IsInside spliced.payload place
    pub stands : IsSettledOrWoven place.standing
    pub whole : IsWholeSlice place.start place.end (slice_of place)
    pub piece : place.standing ≡ Settled → IsPiece copies place.end (link_of spliced.payload place.start place.end)

  all_right : All IsRight spliced.places
  all_right k d lt =
      let place : Place = get_or spliced.places k d in
      let within = places_within copies spliced is k d lt in
      record {
        inside = (within.0, within.1);
        stands = given.1 k d lt;
        whole = all_slices copies spliced is given k d lt;
        piece = settled_piece copies spliced is place (All-contains_itself spliced.places k d lt);
      }

  above_right : All IsRight is.above
  above_right =
      All-left IsRight is.above (hole_places is.start is.hole ++ reverse (lower copies spliced is)) (subst (All IsRight) is.places all_right)

  lower_right : All IsRight (lower copies spliced is)
  lower_right =
      subst (All IsRight) (reverse-reverse (lower copies spliced is))
      (All-reverse IsRight (reverse (lower copies spliced is))
      (All-right IsRight (hole_places is.start is.hole) (reverse (lower copies spliced is)) (after_above copies spliced is IsRight all_right)))

  hole_right : All (λ place. IsRight (moved_by is.start place)) is.hole.places
  hole_right = all_of_hole copies spliced is IsRight all_right

  reach_to : (end : ℕ) → end ≤ length spliced.payload → AllReach copies end
  reach_to end within copy there = omega (arith, is.one_length copy there)

  -- ---- how each stands

  between_so : (place : Place) (h : StandsBetween copies spliced.payload place) → IsRight place
      → IsPieceAt copies place.start (slice_of place) ⊎ IsWovenAt copies h.from place.start (slice_of place)
  between_so place h right =
      stands_small copies spliced.payload place h right.whole (slice_ends spliced.payload place right.inside) right.stands right.piece

  abbrev Lower : ℕ → List ℕ → Type 0
  Lower start slice = IsPieceAt copies start slice ⊎ IsWovenUpward copies is.bound start slice

  abbrev Between : ℕ → List ℕ → Type 0
  Between start slice = IsPieceAt copies start slice ⊎ IsWovenAt copies is.start start slice

  -- a footer up to the bound that claims the start of a place over a lost slice ends where the place does
  crossed_end : (place : Place) → IsRight place → IsCrossed copies is.bound spliced.payload place → (end : ℕ) → end ≤ is.bound
      → IsClaimedAbove copies place.start end place.start → end ≡ place.start + length (slice_of place)
  crossed_end place right crossed end within claim =
      let long = slice_ends spliced.payload place right.inside in
      let below = bound_within copies is.end is.bound is.room in
      let inside = end_within copies spliced is in
      let old : IsClaimedStart copies end place.start = claim_from copies end (reach_to end (omega arith)) place.start place.start claim in
      let content = old.content in
      let at : end ≡ place.start + (end - place.start) = omega arith in
      let here : place.start ≡ place.start + 0 = omega arith in
      let cut : IsClaimedStart (versions_at copies place.start is.bound) (end - place.start) 0 =
      claim_in place.start is.bound copies (end - place.start) 0 (omega arith)
      (subst (IsClaimedStart copies (place.start + (end - place.start))) here (subst (λ e. IsClaimedStart copies e place.start) at old)) in
      let same = crossed.lost.end'.others (end - place.start) (record { claim = cut; within = omega arith }) in
      let ends = crossed.ends in
      omega arith

  crossed_so : (place : Place) → IsCrossed copies is.bound spliced.payload place → IsRight place → Lower place.start (slice_of place)
  unfolding between_crossed
  crossed_so place crossed right = elim (between_so place (between_crossed copies spliced is place crossed) right) [
    | inl piece ↦ inl piece
    | inr woven ↦ inr (record { woven = woven; end = crossed_end place right crossed })
  ]

  piece_so : (place : Place) → IsRight place → IsPiece copies place.end (link_of spliced.payload place.start place.end)
      → IsPieceAt copies place.start (slice_of place)
  piece_so place right piece =
      piece_to copies place.end (reach_to place.end right.inside.1) (link_of spliced.payload place.start place.end) piece

  all_lower_so : All (λ place. IsInside spliced.payload place × Lower place.start (slice_of place)) (lower copies spliced is)
  all_lower_so k d lt =
      let right = lower_right k d lt in (
        right.inside,
        all_lower copies spliced is (λ place. IsRight place → Lower place.start (slice_of place))
            (λ place settled right. inl (piece_so place right settled.only.there))
            crossed_so k d lt right,
      )

  all_above_so : All (λ place. IsInside spliced.payload place × IsPieceAt copies place.start (slice_of place)) is.above
  all_above_so k d lt =
      let right = above_right k d lt in
      let settled : IsSettledDown copies spliced.payload (get_or is.above k d) = is.down.settled k d lt in
      (right.inside, piece_so (get_or is.above k d) right settled.only.there)

  hole_so : All (λ place. IsInside spliced.payload (moved_by is.start place) × Between (is.start + place.start) (slice_of (moved_by is.start place)))
      is.hole.places
  unfolding between_hole
  hole_so k d lt =
      let place : Place = get_or is.hole.places k d in
      let right = hole_right k d lt in (
        right.inside,
        between_so (moved_by is.start place) (between_hole copies spliced is place (All-contains_itself is.hole.places k d lt)) right,
      )

  -- ---- the frame

  abbrev hole_up : List Place
  hole_up = reverse (map (moved_by is.start) is.hole.places)

  hole_rise : RiseFrom is.start hole_up is.end
  hole_rise =
      let whole : LieFrom (length is.hole.payload) is.hole.places 0 =
      subst (LieFrom (length is.hole.payload) is.hole.places) (hole_given_back copies spliced is given).0 is.divided.lie in
      let moved = lie_moved is.start (length is.hole.payload) is.hole.places 0 whole in
      let start : is.start + 0 ≡ is.start = omega arith in
      rise_reverse is.end (map (moved_by is.start) is.hole.places) is.start
      (subst (LieFrom is.end (map (moved_by is.start) is.hole.places)) start
      (subst (λ e. LieFrom e (map (moved_by is.start) is.hole.places) (is.start + 0)) (hole_length copies spliced is) moved))

  all_hole_up : All (λ place. IsInside spliced.payload place × Between place.start (slice_of place)) hole_up
  all_hole_up =
      All-reverse (λ place. IsInside spliced.payload place × Between place.start (slice_of place)) (map (moved_by is.start) is.hole.places)
      (All-map (λ place. IsInside spliced.payload place × Between place.start (slice_of place)) (moved_by is.start) is.hole.places hole_so)

  above_rise : RiseFrom is.end (reverse is.above) (length spliced.payload)
  above_rise = rise_reverse (length spliced.payload) is.above is.end is.down.lie

  all_above_up : All (λ place. IsInside spliced.payload place × IsPieceAt copies place.start (slice_of place)) (reverse is.above)
  all_above_up = All-reverse (λ place. IsInside spliced.payload place × IsPieceAt copies place.start (slice_of place)) is.above all_above_so

  payload_joined : spliced.payload ≡ flat_map (λ slice. slice) (map slice_of (lower copies spliced is) ++ (map slice_of hole_up ++ map slice_of (reverse is.above)))
  payload_joined =
      let bytes : List Place → List ℕ = λ places. flat_map (λ (slice : List ℕ). slice) (map slice_of places) in
      let low = joined_rise spliced.payload 0 (lower copies spliced is) is.start (lower_rise copies spliced is) (λ k d lt. (all_lower_so k d lt).0.0) in
      let mid = joined_rise spliced.payload is.start hole_up is.end hole_rise (λ k d lt. (all_hole_up k d lt).0.0) in
      let high = joined_rise spliced.payload is.end (reverse is.above) (length spliced.payload) above_rise (λ k d lt. (all_above_up k d lt).0.0) in
      let split : flat_map (λ (slice : List ℕ). slice) (map slice_of (lower copies spliced is) ++ (map slice_of hole_up ++ map slice_of (reverse is.above)))
      ≡ bytes (lower copies spliced is) ++ (bytes hole_up ++ bytes (reverse is.above)) =
      flat_map-append (λ (slice : List ℕ). slice) (map slice_of (lower copies spliced is)) (map slice_of hole_up ++ map slice_of (reverse is.above))
      ∙ ap (λ z. bytes (lower copies spliced is) ++ z) (flat_map-append (λ (slice : List ℕ). slice) (map slice_of hole_up) (map slice_of (reverse is.above))) in
      sym (split ∙ sym (append_assoc (bytes (lower copies spliced is)) (bytes hole_up) (bytes (reverse is.above)))
      ∙ ap (λ z. (z ++ bytes hole_up) ++ bytes (reverse is.above)) low ∙ ap (λ z. z ++ bytes (reverse is.above)) mid ∙ high
      ∙ take_all (length spliced.payload) spliced.payload (omega arith))

  -- pieces that differ end where the walk down stops, or none
  room : (is.bound ≡ is.end) ⊎ ((slice : List ℕ) → IsOnlyUpTo copies is.end slice → ⊥)
  room = elim is.room [
    | inl h ↦ inl h.1
    | inr h ↦ inr (λ slice only. is.down.stop h.0 (record { there = h.1; others = λ other there. one_piece slice only other h.0 there h.1 }))
  ]
    where
      one_piece : (slice : List ℕ) → IsOnlyUpTo copies is.end slice → (other piece : LinkValue) → IsPiece copies is.end other → IsPiece copies is.end piece
          → other ≡ piece
      one_piece slice only other piece other_there there =
          let reach = reach_to is.end (end_within copies spliced is) in
          let mine = piece_ends copies is.end reach piece there in
          let yours = piece_ends copies is.end reach other other_there in
          let bytes : other.bytes ≡ piece.bytes =
          only other.start other.bytes (piece_to copies is.end reach other other_there) yours
          ∙ sym (only piece.start piece.bytes (piece_to copies is.end reach piece there) mine) in
          let start : other.start ≡ piece.start = omega (arith, ap length bytes) in
          λ i. record { start = start i; bytes = bytes i }

  pub is_spliced : IsSplicedFrom copies spliced.payload
  is_spliced = record {
    lower = map slice_of (lower copies spliced is);
    hole = map slice_of hole_up;
    upper = map slice_of (reverse is.above);
    floor = is.start;
    top = is.end;
    bound = is.bound;
    some = λ none. let of = copy_at_hand copies spliced is in
        let there : Contains [] of.0 = subst (λ (cs : List (List ℕ)). Contains cs of.0) none of.1 in let lt = there.1 in omega arith;
    one_length = is.one_length;
    joined = payload_joined;
    room = room;
    below = stand_rise spliced.payload Lower 0 (lower copies spliced is) is.start (lower_rise copies spliced is) all_lower_so;
    between = stand_rise spliced.payload Between is.start hole_up is.end hole_rise all_hole_up;
    above = stand_rise spliced.payload (IsPieceAt copies) is.end (reverse is.above) (length spliced.payload) above_rise all_above_up;
  }

pub given_back_is_spliced : GivenBackIsSpliced
given_back_is_spliced copies spliced is given = is_spliced copies spliced is given
