-- The places of a splice: they lie end to end, above the hole, in it and below it.
use Rattle.ffv1_splice.proofs.Common.{◌≡◌, ℕ, zero, suc, ◌+◌, ◌<◌, ◌≤◌, List, ◌++◌, length, map, sym, subst, arith, All, Contains, reverse, append_assoc, All-nil, All-cons, All-append, All-map, All-weaker, length-range, HasContent, SplicedValue, LieFrom, RiseFrom, IsSettledUp, IsCrossed, crossing_places, IsSpliceOf, moved_by, undivided_places, front_of, hole_places, Place}
use Rattle.ffv1_splice.proofs.Versions.{version_of}
use Rattle.ffv1_splice.proofs.Walks.{stands_below, front_below, ends_below}
use Rattle.ffv1_splice.proofs.BoundSteps.{bound_within}
use Rattle.ffv1_splice.proofs.Crossings.{rise_append, crossed_rising, crossed_within, all_crossings, crossings_rise}
use Rattle.ffv1_splice.proofs.PlaceLists.{All-reverse, All-left, All-right, All-mapped, lie_append, lie_moved, top_below, lie_below}

-- ---- the places below the hole

-- from the frame's start up: those that are settled, and those of the crossings
abbrev pub lower : (copies : List (List ℕ)) (spliced : SplicedValue) → IsSpliceOf copies spliced → List Place
lower copies spliced is = is.below ++ crossing_places is.crossings

module _ (copies : List (List ℕ)) (spliced : SplicedValue) (is : IsSpliceOf copies spliced) where
  -- what is so of settled places, and of those over lost slices, is so of all of them
  pub all_crossings_lower : (P : Place → Type 0) → ((place : Place) → IsSettledUp copies is.bound spliced.payload place → P place)
      → ((place : Place) → IsCrossed copies is.bound spliced.payload place → P place) → All P (crossing_places is.crossings)
  all_crossings_lower P settled crossed = all_crossings copies is.bound P spliced.payload crossed settled is.floor is.crossings is.start is.across.are

  pub all_lower : (P : Place → Type 0) → ((place : Place) → IsSettledUp copies is.bound spliced.payload place → P place)
      → ((place : Place) → IsCrossed copies is.bound spliced.payload place → P place) → All P (lower copies spliced is)
  all_lower P settled crossed =
      All-append P is.below (crossing_places is.crossings) (All-weaker (IsSettledUp copies is.bound spliced.payload) P settled is.below is.up.settled)
      (all_crossings_lower P settled crossed)

  pub lower_rise : RiseFrom 0 (lower copies spliced is) is.start
  lower_rise = grind (arith, rise_append, crossings_rise)

-- ---- what is so of all places

module _ (copies : List (List ℕ)) (spliced : SplicedValue) (is : IsSpliceOf copies spliced) (P : Place → Type 0) where
  -- what is so of each part is so of all places
  pub all_places : All P is.above → All (λ place. P (moved_by is.start place)) is.hole.places → All P (undivided_places is.start is.hole.front)
      → All P (lower copies spliced is) → All P spliced.places
  all_places above hole undivided below =
      subst (All P) (sym is.places) (All-append P is.above (hole_places is.start is.hole ++ reverse (lower copies spliced is)) above
      (All-append P (hole_places is.start is.hole) (reverse (lower copies spliced is))
      (All-append P (map (moved_by is.start) is.hole.places) (undivided_places is.start is.hole.front)
      (All-map P (moved_by is.start) is.hole.places hole) undivided) (All-reverse P (lower copies spliced is) below)))

  pub after_above : All P spliced.places → All P (hole_places is.start is.hole ++ reverse (lower copies spliced is))
  after_above all = All-right P is.above (hole_places is.start is.hole ++ reverse (lower copies spliced is)) (subst (All P) is.places all)

  all_hole_places : All P spliced.places → All P (hole_places is.start is.hole)
  all_hole_places all = All-left P (hole_places is.start is.hole) (reverse (lower copies spliced is)) (after_above all)

  -- what is so of all places is so of the hole's, and of what of it can't be divided
  pub all_of_hole : All P spliced.places → All (λ place. P (moved_by is.start place)) is.hole.places
  all_of_hole all =
      All-mapped P (moved_by is.start) is.hole.places
      (All-left P (map (moved_by is.start) is.hole.places) (undivided_places is.start is.hole.front) (all_hole_places all))

  pub all_undivided : All P spliced.places → All P (undivided_places is.start is.hole.front)
  all_undivided all = All-right P (map (moved_by is.start) is.hole.places) (undivided_places is.start is.hole.front) (all_hole_places all)

-- ---- how places lie

module _ (copies : List (List ℕ)) (spliced : SplicedValue) (is : IsSpliceOf copies spliced) where
  -- a copy is at hand
  pub copy_at_hand : (copy : List ℕ) × Contains copies copy
  copy_at_hand = let of = version_of copies is.start is.end is.divided.before.copy is.divided.before.there in (of.0, of.1)

  pub above_upright : All (λ place. place.start ≤ place.end) is.above
  above_upright k d lt = grind arith

  pub lower_upright : All (λ place. place.start < place.end) (lower copies spliced is)
  lower_upright =
      all_lower copies spliced is (λ place. place.start < place.end)
      (λ place settled. let content : HasContent place.start place.end = settled.only.there.content in omega arith)
      (crossed_rising copies is.bound spliced.payload)

  pub end_within : is.end ≤ length spliced.payload
  end_within = front_below (length spliced.payload) is.above is.end above_upright is.down.lie

  pub lower_within : All (λ place. place.end ≤ is.end) (lower copies spliced is)
  lower_within =
      let below = bound_within copies is.end is.bound is.room in
      all_lower copies spliced is (λ place. place.end ≤ is.end)
      (λ place settled. let inside = settled.first.there.within in omega arith)
      (λ place crossed. let inside = crossed_within copies is.bound spliced.payload place crossed in omega arith)

  pub start_within : is.start ≤ is.end
  start_within =
      top_below is.end 0 (lower copies spliced is) is.start (lower_rise copies spliced is) (omega arith) lower_within

  pub hole_length : is.start + length is.hole.payload ≡ is.end
  hole_length = grind (arith, start_within, length-range, end_within)

  -- all places lie end to end
  pub places_lie : LieFrom (length spliced.payload) spliced.places spliced.front
  places_lie =
      let rest = lie_below is.start is.hole.front (lower copies spliced is) (lower_rise copies spliced is) lower_upright in
      let hole : LieFrom is.end (map (moved_by is.start) is.hole.places) (is.start + is.hole.front) = grind (arith, moved_by, hole_length, lie_moved) in
      let joined : LieFrom is.end (hole_places is.start is.hole ++ reverse (lower copies spliced is)) (front_of is.start is.hole.front) =
      grind (arith, front_of, append_assoc, moved_by, undivided_places, lie_append) in
      subst (λ n. LieFrom (length spliced.payload) spliced.places n) (sym is.front)
      (subst (λ z. LieFrom (length spliced.payload) z (front_of is.start is.hole.front)) (sym is.places)
      (lie_append (length spliced.payload) is.end (front_of is.start is.hole.front) is.above (hole_places is.start is.hole ++ reverse (lower copies spliced is))
      is.down.lie joined))

  pub hole_rising : All (λ place. place.start < place.end) is.hole.places
  hole_rising k d lt = grind (arith, stands_below)

  pub hole_upright : All (λ place. place.start ≤ place.end) is.hole.places
  hole_upright k d lt = let order = hole_rising k d lt in omega arith

  undivided_upright : (start front : ℕ) → All (λ place. place.start ≤ place.end) (undivided_places start front)
  undivided_upright zero front = All-nil (λ place. place.start ≤ place.end)
  undivided_upright (suc before) zero = All-nil (λ place. place.start ≤ place.end)
  undivided_upright (suc before) (suc more) = grind (arith, All-cons, All-nil)

  upright : All (λ place. place.start ≤ place.end) spliced.places
  upright =
      all_places copies spliced is (λ place. place.start ≤ place.end) above_upright
      (λ k d lt. let order = hole_upright k d lt in omega arith) (undivided_upright is.start is.hole.front)
      (λ k d lt. let order = lower_upright k d lt in omega arith)

  -- each is within the payload
  pub places_within : All (λ place. place.start ≤ place.end × place.end ≤ length spliced.payload) spliced.places
  places_within k d lt = (upright k d lt, ends_below (length spliced.payload) spliced.places spliced.front upright places_lie k d lt)
