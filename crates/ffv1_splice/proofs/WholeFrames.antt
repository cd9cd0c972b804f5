-- A frame that is given back: its chain is whole, and each of its links passes its parity.
use Rattle.ffv1_splice.proofs.Common.{◌≡◌, ℕ, ◌+◌, ◌≤◌, List, [], ◌∷◌, length, get_or, sym, subst, arith, inl, inr, All, slice_range, All-head, All-tail, All-contains_itself, PassesParity, FooterGives, IsEnd, IsFramed, LinkValue, link_of, last, before, length-range, size_of_range, AllReach, HasContent, IsPiece, versions_at, StandsAs, SplicedValue, LieFrom, IsSpliceOf, IsSettledOrWoven, IsGivenBack, Standing, Settled, Woven, Place, IsWholeFrame, GivenBackIsWhole}
use Rattle.ffv1_splice.proofs.Walks.{reach_less}
use Rattle.ffv1_splice.proofs.Narrowed.{piece_out}
use Rattle.ffv1_splice.proofs.SplicePlaces.{places_lie, places_within}
use Rattle.ffv1_splice.proofs.StandingPlaces.{IsPlaceOf, place_of}
use Rattle.ffv1_splice.proofs.StandingPlaces.IsPlaceOf.{above, between, undivided, below}

-- ---- places that are links of the frame

pub record IsLinkPlace (frame : List ℕ) (place : Place) : Type 0 where
  pub content : HasContent place.start place.end
  pub cut : FooterGives frame place.start place.end
  pub passes : PassesParity (slice_range frame place.start place.end)

-- places back from an end to the first byte
pub record ArePlacesTo (frame : List ℕ) (end : ℕ) : Type 0 where
  pub places : List Place
  pub lie : LieFrom end places 0
  pub links : All (IsLinkPlace frame) places

module _ (frame : List ℕ) where
  end_at_first : (end : ℕ) (places : List Place) → IsEnd frame end → LieFrom end places 0 → All (IsLinkPlace frame) places → IsEnd frame 0
  end_at_first end [] is lie links = subst (IsEnd frame) lie is
  end_at_first end (place ∷ places) is lie links =
      let link = All-head (IsLinkPlace frame) place places links in
      let is_end : IsEnd frame place.end = subst (IsEnd frame) (sym lie.0) is in
      end_at_first place.start places (before is_end link.cut) lie.1 (All-tail (IsLinkPlace frame) place places links)

  -- the place that ends there, and those before its start
  pub record IsNextPlace (end : ℕ) : Type 0 where
    pub place : Place
    pub ends : place.end ≡ end
    pub link : IsLinkPlace frame place
    pub rest : ArePlacesTo frame place.start

  next_place : (end start : ℕ) → FooterGives frame start end → ArePlacesTo frame end → IsNextPlace end
  next_place end start cut to = at to.places to.lie to.links
    where
      at : (places : List Place) → LieFrom end places 0 → All (IsLinkPlace frame) places → IsNextPlace end
      at [] lie links = absurd (omega arith)
      at (place ∷ places) lie links = record {
        place = place;
        ends = lie.0;
        link = All-head (IsLinkPlace frame) place places links;
        rest = record { places = places; lie = lie.1; links = All-tail (IsLinkPlace frame) place places links };
      }

  same_start : (end start : ℕ) → FooterGives frame start end → (next : IsNextPlace end) → next.place.start ≡ start
  same_start end start cut next = grind arith

  module _ (all : ArePlacesTo frame (length frame)) where
    places_to : (end : ℕ) → IsEnd frame end → ArePlacesTo frame end
    places_to end last = all
    places_to end (before {q = q} h cut) =
        let next = next_place q end cut (places_to q h) in
        subst (ArePlacesTo frame) (same_start q end cut next) next.rest

    whole_frame : IsWholeFrame frame
    whole_frame = record {
      whole = end_at_first (length frame) all.places last all.lie all.links;
      content = λ start end link.
          let next = next_place end start link.cut (places_to end link.is_end) in
          subst (λ s. HasContent s end) (same_start end start link.cut next)
          (subst (HasContent next.place.start) next.ends next.link.content);
      passes = λ start end link.
          let next = next_place end start link.cut (places_to end link.is_end) in
          subst (λ s. PassesParity (slice_range frame s end)) (same_start end start link.cut next)
          (subst (λ e. PassesParity (slice_range frame next.place.start e)) next.ends next.link.passes);
    }

-- ---- places that are settled or woven

-- what stands at a place is a slice with content, and passes its parity
pub record IsWholeSlice (start end : ℕ) (bytes : List ℕ) : Type 0 where
  pub content : HasContent start end
  pub framed : IsFramed bytes
  pub passes : PassesParity bytes

-- a piece is one, where it is within its copy
slice_of_piece : (copies : List (List ℕ)) (end : ℕ) (piece : LinkValue) → AllReach copies end → IsPiece copies end piece
    → IsWholeSlice piece.start end piece.bytes
slice_of_piece copies end piece reach h = grind (arith, length-range, size_of_range)

module _ (copies : List (List ℕ)) (spliced : SplicedValue) (is : IsSpliceOf copies spliced) (given : IsGivenBack spliced) where
  reach_to : (end : ℕ) → end ≤ length spliced.payload → AllReach copies end
  reach_to end within copy there = omega (arith, is.one_length copy there)

  -- where it stands as follows from copies that are cut
  cut_slice : (from to start end : ℕ) (bytes : List ℕ) (standing : Standing) → from + end ≤ to → AllReach copies to
      → StandsAs (versions_at copies from to) start end bytes standing → IsSettledOrWoven standing
      → IsWholeSlice (from + start) (from + end) bytes
  cut_slice from to start end bytes Settled within reach stands right =
      slice_of_piece copies (from + end) (record { start = from + start; bytes = bytes }) (reach_less copies to (from + end) within reach)
      (piece_out from to copies end (record { start = start; bytes = bytes }) within stands.there)
  cut_slice from to start end bytes (Woven count) within reach (inl stands) right = grind arith
  cut_slice from to start end bytes (Woven count) within reach (inr (inr stands)) right = grind arith
  cut_slice from to start end bytes (Woven count) within reach (inr (inl stands)) right = grind arith
  cut_slice from to start end bytes standing within reach stands right = absurd right

  abbrev IsSliceThere : Place → Type 0
  IsSliceThere place = IsWholeSlice place.start place.end (slice_range spliced.payload place.start place.end)

  slice_there : (place : Place) → place.end ≤ length spliced.payload → IsPiece copies place.end (link_of spliced.payload place.start place.end)
      → IsSliceThere place
  slice_there place within piece =
      slice_of_piece copies place.end (link_of spliced.payload place.start place.end) (reach_to place.end within) piece

  place_slice : (place : Place) → place.end ≤ length spliced.payload → IsSettledOrWoven place.standing → IsPlaceOf copies spliced is place
      → IsSliceThere place
  place_slice place within right (above settled) = slice_there place within settled.only.there
  place_slice place within right (between h) = grind (arith, cut_slice)
  place_slice place within right (undivided stands) = absurd (subst IsSettledOrWoven stands right)
  place_slice place within right (below settled) = slice_there place within settled.only.there

  pub all_slices : All IsSliceThere spliced.places
  all_slices k d lt =
      let place : Place = get_or spliced.places k d in
      place_slice place (places_within copies spliced is k d lt).1 (given.1 k d lt)
      (place_of copies spliced is place (All-contains_itself spliced.places k d lt))

  link_of_place : (place : Place) → place.end ≤ length spliced.payload → IsSliceThere place → IsLinkPlace spliced.payload place
  link_of_place place within slice = grind (arith, length-range, size_of_range)

  pub whole_given_back : IsWholeFrame spliced.payload
  whole_given_back =
      whole_frame spliced.payload (record {
        places = spliced.places;
        lie = subst (LieFrom (length spliced.payload) spliced.places) given.0 (places_lie copies spliced is);
        links = λ k d lt. link_of_place (get_or spliced.places k d) (places_within copies spliced is k d lt).1 (all_slices k d lt);
      })

pub given_back_is_whole : GivenBackIsWhole
given_back_is_whole copies spliced is given = whole_given_back copies spliced is given
