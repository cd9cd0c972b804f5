-- Copies of an original: what they have and claim of its links.
use Rattle.std.specs.Prelude.{ℕ, ◌≡◌, ◌≤◌, ◌⊎◌, List, Contains, length, map, slice_range}
use Rattle.ffv1_bits.specs.Parity.{AreBytes, PassesParity}
use Rattle.ffv1_slice.specs.Chain.{IsEnd, IsLinkOf, LinkValue, link_of}
use Rattle.ffv1_slice.specs.Near.{IsDamagedWithin32}
use Rattle.ffv1_slice.specs.Members.{IsOfTwo}
use Rattle.ffv1_weave.specs.Combinations.{IsAmongTried}
use Rattle.ffv1_splice.specs.Pieces.{HasContent, IsPiece, IsClaimedStart, PieceFrom}
use Rattle.ffv1_splice.specs.Standings.{versions_at, sized}

-- The chain of the original is whole, and all copies are as long as it is.
pub record AreCopiesOf (original : List ℕ) (copies : List (List ℕ)) : Type 0 where
  pub whole : IsEnd original 0
  pub one_length : (copy : List ℕ) → Contains copies copy → length copy ≡ length original

-- No piece contradicts the original: each that ends at an end of the original is the original's link there.
abbrev pub AreConsistentWith : List ℕ → List (List ℕ) → Type 0
AreConsistentWith original copies =
    (end : ℕ) (piece : LinkValue) → IsEnd original end → IsPiece copies end piece → IsLinkOf original piece.start end × (piece ≡ link_of original piece.start end)

-- So from below: each piece that begins where a link of the original begins, and ends within it, is that link.
abbrev pub AreConsistentFromBelow : List ℕ → List (List ℕ) → Type 0
AreConsistentFromBelow original copies =
    (start end : ℕ) (piece : PieceFrom) → IsLinkOf original start end → piece.end ≤ length original
    → IsPiece copies piece.end (record { start = start; bytes = piece.bytes })
    → piece ≡ record { end = end; bytes = slice_range original start end }

-- each link of the original is a piece of some copy; so each has content
abbrev pub HaveEachLink : List ℕ → List (List ℕ) → Type 0
HaveEachLink original copies = (start end : ℕ) → IsLinkOf original start end → IsPiece copies end (link_of original start end)

-- The original's slice between two places is among the combinations that are tried of what the copies have there. So it is where each region
-- in which they differ is intact in some copy, and where all agree they are right; and where each byte is intact in some copy, and there are
-- at most 4096 combinations by the finest split.
abbrev pub IsAmong : List ℕ → List (List ℕ) → (start end : ℕ) → Type 0
IsAmong original copies start end = IsAmongTried (versions_at copies start end) (slice_range original start end)

-- A slice is among the combinations that are tried between two places: of what the copies have there, where a footer there claims the start;
-- and of what they have with the size of a slice that is as long, where none does, and where footers there claim several starts.
pub record IsTriedAt (copies : List (List ℕ)) (start end : ℕ) (slice : List ℕ) : Type 0 where
  pub claimed : IsClaimedStart copies end start → IsAmongTried (versions_at copies start end) slice
  pub unclaimed : HasContent start end → (IsClaimedStart copies end start → ⊥) → IsAmongTried (map sized (versions_at copies start end)) slice
  pub several : IsOfTwo (IsClaimedStart copies end)
      → ((version : List ℕ) → Contains (versions_at copies start end) version → AreBytes version)
      → IsAmongTried (map sized (versions_at copies start end)) slice

-- No piece contradicts the original, from an end or from a start of its links. The start of each link is claimed by a footer of some
-- copy, and its slice, which passes its parity, is among the combinations that are tried there.
pub record AreWeavable (original : List ℕ) (copies : List (List ℕ)) : Type 0 where
  pub agree : AreConsistentWith original copies
  pub below : AreConsistentFromBelow original copies
  pub claim : (start end : ℕ) → IsLinkOf original start end → IsClaimedStart copies end start
  pub passes : (start end : ℕ) → IsLinkOf original start end → PassesParity (slice_range original start end)
  pub among : (start end : ℕ) → IsLinkOf original start end → IsTriedAt copies start end (slice_range original start end)

-- ---- copies that are near an original

-- An original whose chain is whole, and whose links all have content and pass their parity.
pub record IsUndamaged (original : List ℕ) : Type 0 where
  pub whole : IsEnd original 0
  pub are_bytes : AreBytes original
  pub content : (start end : ℕ) → IsLinkOf original start end → HasContent start end
  pub passes : (start end : ℕ) → IsLinkOf original start end → PassesParity (slice_range original start end)

-- where a link of the original stands, a copy has the same bytes
abbrev pub IsIntact : List ℕ → List ℕ → (start end : ℕ) → Type 0
IsIntact original copy start end = slice_range copy start end ≡ slice_range original start end

-- A copy as long as the original. Where a link of the original stands, it is intact, or damaged within 32 consecutive bits off the size field.
pub record IsNearCopy (original copy : List ℕ) : Type 0 where
  pub are_bytes : AreBytes copy
  pub same_length : length copy ≡ length original
  pub each : (start end : ℕ) → IsLinkOf original start end
      → IsIntact original copy start end ⊎ IsDamagedWithin32 (slice_range original start end) (slice_range copy start end)

pub record AreNearCopies (original : List ℕ) (copies : List (List ℕ)) : Type 0 where
  pub undamaged : IsUndamaged original
  pub near : (copy : List ℕ) → Contains copies copy → IsNearCopy original copy

-- some copy has the link intact
abbrev pub IsIntactInSome : List ℕ → List (List ℕ) → (start end : ℕ) → Type 0
IsIntactInSome original copies start end = (copy : List ℕ) × Contains copies copy × IsIntact original copy start end
