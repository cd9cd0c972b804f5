-- The next end that is claimed, and the walk up from a payload's start.
use Rattle.std.specs.Prelude.{◌≡◌, ℕ, ◌+◌, ◌<◌, ◌≤◌, List, [], ◌∷◌, ◌++◌, length}
use Rattle.ffv1_slice.specs.Members.{IsOnly}
use Rattle.ffv1_splice.specs.Pieces.{IsPiece, PieceFrom, IsShortest}
use Rattle.ffv1_splice.specs.Splice.{IsClaimedEnd, IsWalkUp, IsWalkAcross, Crossing, crossing_places}
use Rattle.ffv1_splice.specs.declared.place.Place.{Place}

-- the first that one copy claims after a place
pub record IsNextClaimed (copy : List ℕ) (from reach end : ℕ) : Type 0 where
  pub claimed : IsClaimedEnd (copy ∷ []) reach end
  pub after : from < end
  pub first : (other : ℕ) → from < other → IsClaimedEnd (copy ∷ []) reach other → end ≤ other

-- a slice is the shortest from a place, and no other one ends at its end
abbrev pub IsSettledFrom : List (List ℕ) → ℕ → ℕ → List ℕ → Type 0
IsSettledFrom copies bound start bytes =
    IsShortest copies bound start (record { end = start + length bytes; bytes = bytes })
    × IsOnly (IsPiece copies (start + length bytes)) (record { start = start; bytes = bytes })

-- .. and none is
abbrev pub NoneIsSettledFrom : List (List ℕ) → ℕ → ℕ → Type 0
NoneIsSettledFrom copies bound start =
    (piece : PieceFrom) → IsShortest copies bound start piece → IsOnly (IsPiece copies piece.end) (record { start = start; bytes = piece.bytes }) → ⊥

-- places from a payload's start on up to where the walk stops, those over lost slices among them
abbrev pub IsWalkFromStart : List (List ℕ) → ℕ → List ℕ → List Place → ℕ → Type 0
IsWalkFromStart copies bound payload places top =
    (below : List Place) × (crossings : List Crossing) × (floor : ℕ) × (places ≡ below ++ crossing_places crossings)
    × IsWalkUp copies bound payload 0 below floor × IsWalkAcross copies bound payload floor crossings top
