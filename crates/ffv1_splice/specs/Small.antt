-- What `splice` writes where it returns `true`: slices of which each passes, and is settled or woven from the copies; and when that is the
-- original. Of a slice only its footer and its parity are read here (RFC 9043, section 4.9), and no header.
use Rattle.std.specs.Prelude.{ℕ, ◌+◌, ◌<◌, ◌≤◌, ◌≡◌, ◌⊎◌, List, [], ◌∷◌, ◌++◌, Contains, length, map}
use Rattle.std.specs.List.{flat_map}
use Rattle.ffv1_bits.specs.Parity.{AreBytes, PassesParity}
use Rattle.ffv1_slice.specs.Chain.{IsFramed}
use Rattle.ffv1_slice.specs.Members.{IsOnly, IsOfTwo, IsOfNone}
use Rattle.ffv1_slice.specs.Near.{IsDamagedWithin32}
use Rattle.ffv1_weave.specs.Combinations.{IsCombinationBy, IsTriedBy, IsAmongTried}
use Rattle.ffv1_splice.specs.Standings.{versions_at, sized}

-- ---- slices

-- The bytes are a slice by their footer, and have content before it.
pub record HasSliceFooter (bytes : List ℕ) : Type 0 where
  pub framed : IsFramed bytes
  pub content : 8 < length bytes

-- They pass as one.
abbrev pub PassesAsSlice : List ℕ → Type 0
PassesAsSlice bytes = HasSliceFooter bytes × PassesParity bytes

-- Slices stand one after the other, from a start up to a top, and this is so of the place where each begins, and of the slice.
abbrev pub StandEach : (ℕ → List ℕ → Type 0) → (start : ℕ) → List (List ℕ) → (top : ℕ) → Type 0
StandEach Is start [] top = start ≡ top
StandEach Is start (slice ∷ slices) top = Is start slice × StandEach Is (start + length slice) slices top

-- The payload is slices of which this is so, and each copy is as long.
pub record IsJoinedOf (Is : ℕ → List ℕ → Type 0) (copies : List (List ℕ)) (payload : List ℕ) : Type 0 where
  pub slices : List (List ℕ)
  pub joined : payload ≡ flat_map (λ slice. slice) slices
  pub each : StandEach Is 0 slices (length payload)
  pub one_length : (copy : List ℕ) → Contains copies copy → length copy ≡ length payload

-- ---- settled

-- A slice that begins at the start stands so in some copy, and passes.
pub record IsPieceAt (copies : List (List ℕ)) (start : ℕ) (slice : List ℕ) : Type 0 where
  pub there : Contains (versions_at copies start (start + length slice)) slice
  pub passes : PassesAsSlice slice

-- Each piece that ends there is this slice.
abbrev pub IsOnlyUpTo : List (List ℕ) → (end : ℕ) → List ℕ → Type 0
IsOnlyUpTo copies end slice = (start : ℕ) (piece : List ℕ) → IsPieceAt copies start piece → start + length piece ≡ end → piece ≡ slice

-- The slice is a piece, and no other piece ends where it ends.
pub record IsSettledAt (copies : List (List ℕ)) (start : ℕ) (slice : List ℕ) : Type 0 where
  pub piece : IsPieceAt copies start slice
  pub only : IsOnlyUpTo copies (start + length slice) slice

-- ---- woven

-- Some copy's footer before the end claims this start, which is not below a floor, whatever the parity.
pub record IsClaimedAbove (copies : List (List ℕ)) (floor end start : ℕ) : Type 0 where
  pub version : List ℕ
  pub there : Contains (versions_at copies start end) version
  pub footer : HasSliceFooter version
  pub above : floor ≤ start

-- The bytes are one of the combinations of versions that are tried.
abbrev pub IsTried : List (List ℕ) → List ℕ → Type 0
IsTried versions bytes = (split : _) × (count : ℕ) × IsTriedBy versions split count × IsCombinationBy split versions bytes

-- The bytes are tried from this start up to the end: of what the copies have there, where this start alone is claimed; with the size of a slice
-- that is as long, where several are; and so from the floor, where none is.
pub data IsTriedUpTo (copies : List (List ℕ)) (floor end start : ℕ) (bytes : List ℕ) : Type 0 where
  alone : IsOnly (IsClaimedAbove copies floor end) start → IsTried (versions_at copies start end) bytes → IsTriedUpTo copies floor end start bytes
  several : IsOfTwo (IsClaimedAbove copies floor end) → IsClaimedAbove copies floor end start → IsTried (map sized (versions_at copies start end)) bytes
      → IsTriedUpTo copies floor end start bytes
  unclaimed : IsOfNone (IsClaimedAbove copies floor end) → start ≡ floor → IsTried (map sized (versions_at copies start end)) bytes
      → IsTriedUpTo copies floor end start bytes

-- Of all that is tried up to where the slice ends it alone passes, and from each start that is claimed something is tried.
pub record IsWovenAt (copies : List (List ℕ)) (floor start : ℕ) (slice : List ℕ) : Type 0 where
  pub tried : IsTriedUpTo copies floor (start + length slice) start slice
  pub passes : PassesAsSlice slice
  pub only : (other : ℕ) (bytes : List ℕ) → IsTriedUpTo copies floor (start + length slice) other bytes → PassesAsSlice bytes → bytes ≡ slice
  pub each : (other : ℕ) → IsClaimedAbove copies floor (start + length slice) other
      → (bytes : List ℕ) × IsTriedUpTo copies floor (start + length slice) other bytes

-- It is woven from its own start, and where a footer up to a bound claims this start, it ends where the slice does.
pub record IsWovenUpward (copies : List (List ℕ)) (bound start : ℕ) (slice : List ℕ) : Type 0 where
  pub woven : IsWovenAt copies start start slice
  pub end : (end : ℕ) → end ≤ bound → IsClaimedAbove copies start end start → end ≡ start + length slice

-- ---- what is written

-- The payload is spliced from the copies. Above a top its slices are pieces. Below a floor they are pieces, or woven upward with the top for
-- a bound (or with any, where pieces that differ end at the top). Between the two they are pieces, or woven from the floor.
pub record IsSplicedFrom (copies : List (List ℕ)) (payload : List ℕ) : Type 0 where
  pub lower : List (List ℕ)
  pub hole : List (List ℕ)
  pub upper : List (List ℕ)
  pub floor : ℕ
  pub top : ℕ
  pub bound : ℕ
  pub some : copies ≡ [] → ⊥
  pub one_length : (copy : List ℕ) → Contains copies copy → length copy ≡ length payload
  pub joined : payload ≡ flat_map (λ slice. slice) (lower ++ (hole ++ upper))
  pub room : (bound ≡ top) ⊎ ((slice : List ℕ) → IsOnlyUpTo copies top slice → ⊥)
  pub below : StandEach (λ start slice. IsPieceAt copies start slice ⊎ IsWovenUpward copies bound start slice) 0 lower floor
  pub between : StandEach (λ start slice. IsPieceAt copies start slice ⊎ IsWovenAt copies floor start slice) floor hole top
  pub above : StandEach (IsPieceAt copies) top upper (length payload)

-- ---- an original and its copies

-- Each piece that begins there is this slice.
abbrev pub IsOnlyFrom : List (List ℕ) → (start : ℕ) → List ℕ → Type 0
IsOnlyFrom copies start slice = (piece : List ℕ) → IsPieceAt copies start piece → piece ≡ slice

-- The slice of an original passes, and no piece that begins where it does, or ends where it does, is another.
pub record IsUncontradicted (copies : List (List ℕ)) (start : ℕ) (slice : List ℕ) : Type 0 where
  pub passes : PassesAsSlice slice
  pub begins : IsOnlyFrom copies start slice
  pub ends : IsOnlyUpTo copies (start + length slice) slice

-- It is among what is tried of what the copies have there, if anything is.
abbrev pub IsAmongVersions : List (List ℕ) → (start : ℕ) → List ℕ → Type 0
IsAmongVersions copies start slice = IsAmongTried (versions_at copies start (start + length slice)) slice

-- A footer claims its start, and it is among what is tried there; with the size of a slice that is as long too, if several starts are claimed.
pub record IsWithinReach (copies : List (List ℕ)) (start : ℕ) (slice : List ℕ) : Type 0 where
  pub claimed : IsClaimedAbove copies 0 (start + length slice) start
  pub among : IsAmongVersions copies start slice
  pub several : IsOfTwo (IsClaimedAbove copies 0 (start + length slice))
      → IsAmongTried (map sized (versions_at copies start (start + length slice))) slice

-- Each copy has the slice there, or has it damaged within 32 consecutive bits, but not in its size.
pub record IsNearAt (copies : List (List ℕ)) (start : ℕ) (slice : List ℕ) : Type 0 where
  pub passes : PassesAsSlice slice
  pub bytes : AreBytes slice
  pub near : (version : List ℕ) → Contains (versions_at copies start (start + length slice)) version
      → AreBytes version × ((version ≡ slice) ⊎ IsDamagedWithin32 slice version)

-- ---- laws

-- What is spliced is the original, where no piece contradicts a slice of it, and each is within reach.
abbrev pub SplicedIsTheOriginal : Type 0
SplicedIsTheOriginal =
    (copies : List (List ℕ)) (original payload : List ℕ)
    → IsJoinedOf (λ start slice. IsUncontradicted copies start slice × IsWithinReach copies start slice) copies original
    → IsSplicedFrom copies payload → payload ≡ original

-- So it is of near copies, where each slice is among what is tried, and no piece that begins where it does is another.
abbrev pub SplicedOfNearIsTheOriginal : Type 0
SplicedOfNearIsTheOriginal =
    (copies : List (List ℕ)) (original payload : List ℕ)
    → IsJoinedOf (λ start slice. IsNearAt copies start slice × IsOnlyFrom copies start slice × IsAmongVersions copies start slice) copies original
    → IsSplicedFrom copies payload → payload ≡ original

-- Of near copies an original is settled, where each of its slices is a piece.
abbrev pub NearCopiesSettle : Type 0
NearCopiesSettle =
    (copies : List (List ℕ)) (original : List ℕ) → IsJoinedOf (λ start slice. IsNearAt copies start slice × IsPieceAt copies start slice) copies original
    → IsJoinedOf (IsSettledAt copies) copies original

-- What is settled from copies is spliced from them.
abbrev pub SettledIsSpliced : Type 0
SettledIsSpliced =
    (copies : List (List ℕ)) (original : List ℕ) → (copies ≡ [] → ⊥) → IsJoinedOf (IsSettledAt copies) copies original
    → IsSplicedFrom copies original
