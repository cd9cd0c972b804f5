-- The frame that copies of one length are spliced to: settled down from its end, settled up from its start, over slices that are lost in
-- all copies too, and the hole that is left.
use Rattle.std.specs.Prelude.{ℕ, zero, suc, ◌+◌, ◌-◌, ◌≡◌, ◌≤◌, ◌⊎◌, List, [], ◌∷◌, ◌++◌, All, Contains, length, map, reverse, take, slice_range}
use Rattle.std.specs.List.{flat_map}
use Rattle.ffv1_slice.specs.Chain.{LinkValue, link_of}
use Rattle.ffv1_slice.specs.Members.{IsOnly, IsOfNone}
use Rattle.ffv1_splice.specs.Pieces.{IsPiece, IsClaimedStart, PieceFrom, IsPieceFrom, IsShortest, IsLeast}
use Rattle.ffv1_splice.specs.Standings.{versions_at, StandsAs, IsStop}
use Rattle.ffv1_splice.specs.declared.place.Standing.{Standing}
use Rattle.ffv1_splice.specs.declared.place.Standing.TheVariants.{Settled, Woven, Undivided}
use Rattle.ffv1_splice.specs.declared.place.Place.{Place}
use Rattle.ffv1_splice.specs.declared.crossing.TheConstants.{MOST_CROSSED}

-- what a splice gives: its places from the frame's end on, where the last of them begins, and all bytes
pub record SplicedValue : Type 0 where
  pub places : List Place
  pub front : ℕ
  pub payload : List ℕ

-- Places lie end to end, from an end back to a front.
abbrev pub LieFrom : ℕ → List Place → ℕ → Type 0
LieFrom end [] front = end ≡ front
LieFrom end (place ∷ places) front = (place.end ≡ end) × LieFrom place.start places front

-- Places lie end to end, from a start on up to a top.
abbrev pub RiseFrom : ℕ → List Place → ℕ → Type 0
RiseFrom start [] top = start ≡ top
RiseFrom start (place ∷ places) top = (place.start ≡ start) × RiseFrom place.end places top

-- ---- down from the end

-- Exactly one piece ends where the place ends, and it stands there.
pub record IsSettledDown (copies : List (List ℕ)) (payload : List ℕ) (place : Place) : Type 0 where
  pub standing : place.standing ≡ Settled
  pub only : IsOnly (IsPiece copies place.end) (link_of payload place.start place.end)

-- Places settled from the payload's end down to the first end at which not exactly one piece ends.
pub record IsWalkDown (copies : List (List ℕ)) (payload : List ℕ) (places : List Place) (end : ℕ) : Type 0 where
  pub lie : LieFrom (length payload) places end
  pub settled : All (IsSettledDown copies payload) places
  pub stop : (piece : LinkValue) → IsOnly (IsPiece copies end) piece → ⊥

-- ---- up from the start

-- How far up from the start places can be settled below an end: to the end, where no piece ends there. Where pieces that differ end there,
-- to the first byte of them all, since nothing decides which of them goes with the slices below.
abbrev pub IsBound : List (List ℕ) → (end bound : ℕ) → Type 0
IsBound copies end bound =
    (IsOfNone (IsPiece copies end) × (bound ≡ end))
    ⊎ ((piece : LinkValue) × IsPiece copies end piece × (piece.start ≡ bound) × ((other : LinkValue) → IsPiece copies end other → bound ≤ other.start))

-- Of the pieces that begin where the place begins, and end at the bound or before it, the one that stands there ends first; and no other
-- piece ends where it ends.
pub record IsSettledUp (copies : List (List ℕ)) (bound : ℕ) (payload : List ℕ) (place : Place) : Type 0 where
  pub standing : place.standing ≡ Settled
  pub first : IsShortest copies bound place.start (record { end = place.end; bytes = slice_range payload place.start place.end })
  pub only : IsOnly (IsPiece copies place.end) (link_of payload place.start place.end)

-- Places settled from a place of the payload up to the first start from which none can be.
pub record IsWalkUp (copies : List (List ℕ)) (bound : ℕ) (payload : List ℕ) (from : ℕ) (places : List Place) (start : ℕ) : Type 0 where
  pub rise : RiseFrom from places start
  pub settled : All (IsSettledUp copies bound payload) places
  pub stop : (piece : PieceFrom) → IsShortest copies bound start piece
      → IsOnly (IsPiece copies piece.end) (record { start = start; bytes = piece.bytes }) → ⊥

-- ---- up over slices that are lost in all copies

-- A footer that ends there in some copy claims that its slice begins where the copies do, and the place lies within reach.
pub record IsClaimedEnd (copies : List (List ℕ)) (reach end : ℕ) : Type 0 where
  pub claim : IsClaimedStart copies end 0
  pub within : end ≤ reach

-- The slice with which the copies begin is lost in all of them, and ends here: no piece begins with them, this end alone is claimed, no
-- other start is claimed at it, and no piece ends there. But a piece begins there, which bears the end out.
pub record IsLostUpTo (copies : List (List ℕ)) (reach end : ℕ) : Type 0 where
  pub lost : IsOfNone (IsPieceFrom copies reach 0)
  pub end' : IsOnly (IsClaimedEnd copies reach) end
  pub start : IsOnly (IsClaimedStart copies end) 0
  pub none : IsOfNone (IsPiece copies end)
  pub next : (piece : PieceFrom) × IsPieceFrom copies reach end piece

-- A place over such a slice. How it stands follows from what the copies have from its start up to the bound. What they have before does not
-- count.
pub record IsCrossed (copies : List (List ℕ)) (bound : ℕ) (payload : List ℕ) (place : Place) : Type 0 where
  pub size : ℕ
  pub ends : place.end ≡ place.start + size
  pub lost : IsLostUpTo (versions_at copies place.start bound) (bound - place.start) size
  pub stands : StandsAs (versions_at copies place.start bound) 0 size (slice_range payload place.start place.end) place.standing

-- one such place, and the places that are settled after it
pub record Crossing : Type 0 where
  pub over : Place
  pub settled : List Place

-- Crossings from a start up to a top, each from where the one before it ends.
abbrev pub AreCrossings : List (List ℕ) → (bound : ℕ) → (payload : List ℕ) → (start : ℕ) → List Crossing → (top : ℕ) → Type 0
AreCrossings copies bound payload start [] top = start ≡ top
AreCrossings copies bound payload start (crossing ∷ crossings) top =
    (crossing.over.start ≡ start) × IsCrossed copies bound payload crossing.over
    × (next : ℕ) × IsWalkUp copies bound payload crossing.over.end crossing.settled next × AreCrossings copies bound payload next crossings top

-- Crossings as far as there are any, and 64 at most.
pub record IsWalkAcross (copies : List (List ℕ)) (bound : ℕ) (payload : List ℕ) (start : ℕ) (crossings : List Crossing) (top : ℕ) : Type 0 where
  pub are : AreCrossings copies bound payload start crossings top
  pub few : length crossings ≤ MOST_CROSSED
  pub stop : (length crossings ≡ MOST_CROSSED) ⊎ ((end : ℕ) → IsLostUpTo (versions_at copies top bound) (bound - top) end → ⊥)

-- their places, from the start up
abbrev pub crossing_places : List Crossing → List Place
crossing_places crossings = flat_map (λ crossing. crossing.over ∷ crossing.settled) crossings

-- ---- the hole between them

-- Copies divided from their end alone. The places lie end to end from the end back to a front. Each stands as follows from the copies, with
-- the bytes that the payload has there. At the front no place ends: what stands before it can't be divided, and is
-- the lexicographically smallest bytes that a copy has there. The front is the start where the places cover all.
pub record IsDivisionOf (copies : List (List ℕ)) (divided : SplicedValue) : Type 0 where
  pub one_length : (copy : List ℕ) → Contains copies copy → length copy ≡ length divided.payload
  pub lie : LieFrom (length divided.payload) divided.places divided.front
  pub stand : All (λ place. StandsAs copies place.start place.end (slice_range divided.payload place.start place.end) place.standing) divided.places
  pub stop : IsStop copies divided.front
  pub before : IsLeast copies 0 divided.front (take divided.front divided.payload)

-- a place of the hole, counted from the frame's start
abbrev pub moved_by : ℕ → Place → Place
moved_by start place = record { start = start + place.start; end = start + place.end; standing = place.standing }

-- What of the hole can't be divided is a place of its own where places stand below the hole, and else the frame's front.
abbrev pub undivided_places : (start front : ℕ) → List Place
undivided_places zero front = []
undivided_places (suc before) zero = []
undivided_places (suc before) (suc more) = record { start = suc before; end = suc before + suc more; standing = Undivided } ∷ []

abbrev pub front_of : (start front : ℕ) → ℕ
front_of zero front = front
front_of (suc before) front = 0

abbrev pub hole_places : ℕ → SplicedValue → List Place
hole_places start hole = map (moved_by start) hole.places ++ undivided_places start hole.front

-- ---- the frame

-- The splice is as long as each copy. Places are settled down from its end, and up from its start, up to a floor. From there places lie
-- over slices that are lost in all copies, and are settled between them. The hole that is left is divided by what the copies have there
-- alone, so no footer leads out of it.
pub record IsSpliceOf (copies : List (List ℕ)) (spliced : SplicedValue) : Type 0 where
  pub above : List Place
  pub below : List Place
  pub crossings : List Crossing
  pub floor : ℕ
  pub start : ℕ
  pub end : ℕ
  pub bound : ℕ
  pub hole : SplicedValue
  pub one_length : (copy : List ℕ) → Contains copies copy → length copy ≡ length spliced.payload
  pub down : IsWalkDown copies spliced.payload above end
  pub room : IsBound copies end bound
  pub up : IsWalkUp copies bound spliced.payload 0 below floor
  pub across : IsWalkAcross copies bound spliced.payload floor crossings start
  pub divided : IsDivisionOf (versions_at copies start end) hole
  pub bytes : hole.payload ≡ slice_range spliced.payload start end
  pub places : spliced.places ≡ above ++ (hole_places start hole ++ reverse (below ++ crossing_places crossings))
  pub front : spliced.front ≡ front_of start hole.front

-- a slice that passes its parity stands there
abbrev pub IsSettledOrWoven : Standing → Type 0
IsSettledOrWoven Settled = Unit {0}
IsSettledOrWoven (Woven count) = Unit {0}
IsSettledOrWoven _ = ⊥

-- All of the frame is given back: the places cover it, and at each stands a slice that passes its parity.
abbrev pub IsGivenBack : SplicedValue → Type 0
IsGivenBack spliced = (spliced.front ≡ 0) × All (λ place. IsSettledOrWoven place.standing) spliced.places
