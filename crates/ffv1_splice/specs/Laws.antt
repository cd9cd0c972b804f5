-- Laws of the splice.
use Rattle.std.specs.Prelude.{ℕ, ◌+◌, ◌≡◌, ◌↔◌, ◌⊎◌, List, ◌∷◌, ◌++◌, All, Contains, map, slice_range}
use Rattle.ffv1_slice.specs.Chain.{IsEnd, IsLinkOf, link_of}
use Rattle.ffv1_slice.specs.Walk.{links_of}
use Rattle.ffv1_slice.specs.Members.{HasSameMembers, IsOnly, IsOfTwo}
use Rattle.ffv1_bits.specs.Parity.{AreBytes, PassesParity}
use Rattle.ffv1_weave.specs.Combinations.{IsCombination, IsAmongTried, HasFewByByte}
use Rattle.ffv1_weave.specs.Laws.{HasEachByte}
use Rattle.ffv1_weave.specs.Weave.{AreMany}
use Rattle.ffv1_weave.specs.Repairs.{IsRepair}
use Rattle.ffv1_weave.specs.Votes.{IsVote}
use Rattle.ffv1_splice.specs.Pieces.{AllReach, IsClaimedStart, IsClaimedFrom}
use Rattle.ffv1_splice.specs.Standings.{versions_at, sized}
use Rattle.ffv1_splice.specs.Splice.{SplicedValue, IsSpliceOf, IsGivenBack, crossing_places, moved_by}
use Rattle.ffv1_splice.specs.Originals.{AreCopiesOf, AreConsistentWith, AreConsistentFromBelow, HaveEachLink, IsAmong, IsTriedAt, AreWeavable, AreNearCopies, IsIntactInSome}
use Rattle.ffv1_splice.specs.declared.place.Standing.TheVariants.{Settled, Woven, Voted, Repaired, Missing}
use Rattle.ffv1_splice.specs.declared.place.Place.{Place}

-- The same copies have one splice.
abbrev pub SameCopiesSplice : Type 0
SameCopiesSplice =
    (copies others : List (List ℕ)) (one other : SplicedValue) → HasSameMembers copies others → IsSpliceOf copies one → IsSpliceOf others other → one ≡ other

-- ---- an original

-- The places are the original's links, from its end to its first byte.
pub record HasLinksOf (original : List ℕ) (spliced : SplicedValue) : Type 0 where
  pub links : map (λ place. link_of original place.start place.end) spliced.places ≡ links_of original
  pub whole : spliced.front ≡ 0

-- all settled, and the original byte for byte
pub record IsSplicedOriginal (original : List ℕ) (spliced : SplicedValue) : Type 0 where
  pub places : HasLinksOf original spliced
  pub settled : All (λ place. place.standing ≡ Settled) spliced.places
  pub payload : spliced.payload ≡ original

-- Where no piece contradicts the original, and each of its links is a piece, the splice is the original.
abbrev pub OriginalIsSpliced : Type 0
OriginalIsSpliced =
    (original : List ℕ) (copies : List (List ℕ)) (spliced : SplicedValue) → AreCopiesOf original copies → AreConsistentWith original copies
    → HaveEachLink original copies → IsSpliceOf copies spliced → IsSplicedOriginal original spliced

-- Where no piece contradicts the original, each settled place that ends at an end of the original is its link there, byte for byte.
abbrev pub SettledIsOriginal : Type 0
SettledIsOriginal =
    (original : List ℕ) (copies : List (List ℕ)) (spliced : SplicedValue) (place : Place) → AreConsistentWith original copies → IsSpliceOf copies spliced
    → Contains spliced.places place → place.standing ≡ Settled → IsEnd original place.end
    → IsLinkOf original place.start place.end × (slice_range spliced.payload place.start place.end ≡ slice_range original place.start place.end)

-- a place is a link of the original, byte for byte
pub record IsItsLink (original : List ℕ) (spliced : SplicedValue) (place : Place) : Type 0 where
  pub link : IsLinkOf original place.start place.end
  pub bytes : slice_range spliced.payload place.start place.end ≡ slice_range original place.start place.end

-- And where no piece contradicts the original from below, each settled place above the hole and below it is a link of the original.
abbrev pub SettledWalksAreOriginal : Type 0
SettledWalksAreOriginal =
    (original : List ℕ) (copies : List (List ℕ)) (spliced : SplicedValue) → AreCopiesOf original copies → AreConsistentWith original copies
    → AreConsistentFromBelow original copies → (is : IsSpliceOf copies spliced)
    → All (IsItsLink original spliced) is.above × All (IsItsLink original spliced) is.below

-- a place is a link of the original, and byte for byte where it is settled
pub record IsLinkIfSettled (original : List ℕ) (spliced : SplicedValue) (place : Place) : Type 0 where
  pub link : IsLinkOf original place.start place.end
  pub settled : place.standing ≡ Settled → IsItsLink original spliced place

-- And where some copy claims the start of each link besides, each place over a slice that is lost in all copies is a link of the original,
-- and each that is settled after one is so byte for byte.
abbrev pub WalkAcrossIsOriginal : Type 0
WalkAcrossIsOriginal =
    (original : List ℕ) (copies : List (List ℕ)) (spliced : SplicedValue) → AreCopiesOf original copies → AreConsistentWith original copies
    → AreConsistentFromBelow original copies → ((start end : ℕ) → IsLinkOf original start end → IsClaimedStart copies end start)
    → (is : IsSpliceOf copies spliced) → All (IsLinkIfSettled original spliced) (crossing_places is.crossings)

-- ---- settled in the hole

-- each start that a footer claims there is that of the original's link
abbrev pub IsClaimedAsIn : List ℕ → List (List ℕ) → (end : ℕ) → Type 0
IsClaimedAsIn original copies end = (start : ℕ) → IsClaimedStart copies end start → IsLinkOf original start end

-- Where no piece contradicts the original, the hole's top is an end of it. A settled place of the hole is its link, byte for byte, if each
-- place of the hole above it is settled, or the footers at its end claim no start but that of the original's link. A place whose end is no
-- end of the original is another slice, which passes its parity: no law says that it is the original's.
abbrev pub SettledInHoleIsOriginal : Type 0
SettledInHoleIsOriginal =
    (original : List ℕ) (copies : List (List ℕ)) (spliced : SplicedValue) (higher : List Place) (place : Place) (lower : List Place)
    → AreCopiesOf original copies → AreConsistentWith original copies → (is : IsSpliceOf copies spliced)
    → is.hole.places ≡ higher ++ (place ∷ lower)
    → All (λ one. (one.standing ≡ Settled) ⊎ IsClaimedAsIn original copies (is.start + one.end)) higher → place.standing ≡ Settled
    → IsItsLink original spliced (moved_by is.start place)

-- ---- what is woven

-- What is woven at a place is the original's slice; it is never repaired; and where it is missing or voted, there are more combinations
-- than are tried.
pub record KeepsLink (original : List ℕ) (copies : List (List ℕ)) (spliced : SplicedValue) (place : Place) : Type 0 where
  pub woven : (count : ℕ) → place.standing ≡ Woven count
      → slice_range spliced.payload place.start place.end ≡ slice_range original place.start place.end
  pub unrepaired : (count : ℕ) → place.standing ≡ Repaired count → ⊥
  pub missing : place.standing ≡ Missing → AreMany (versions_at copies place.start place.end)
  pub voted : (count : ℕ) → place.standing ≡ Voted count → AreMany (versions_at copies place.start place.end)

-- So it is at each place that is a link of the original, where the original's slice passes its parity and is among the combinations that are
-- tried there.
abbrev pub WovenIsOriginal : Type 0
WovenIsOriginal =
    (original : List ℕ) (copies : List (List ℕ)) (spliced : SplicedValue) (place : Place) → IsSpliceOf copies spliced → Contains spliced.places place
    → IsLinkOf original place.start place.end → PassesParity (slice_range original place.start place.end)
    → IsTriedAt copies place.start place.end (slice_range original place.start place.end) → KeepsLink original copies spliced place

-- Of the starts from the hole on, the footers at the end of a place claim that of the original's link alone. Then the place is that link, and
-- so it is there.
abbrev pub ClaimedAloneIsOriginal : Type 0
ClaimedAloneIsOriginal =
    (original : List ℕ) (copies : List (List ℕ)) (spliced : SplicedValue) (place : Place) (start : ℕ) → (is : IsSpliceOf copies spliced)
    → Contains spliced.places place → IsOnly (IsClaimedFrom copies is.start place.end) start → IsLinkOf original start place.end
    → PassesParity (slice_range original start place.end) → IsTriedAt copies start place.end (slice_range original start place.end)
    → (place.start ≡ start) × KeepsLink original copies spliced place

-- Where no copy claims the start of that link, so it is woven from the front of the hole, and where the footers there claim several starts from
-- the hole on: what is woven is the original's slice, if that passes its parity and is among the combinations that are tried of what
-- the copies have there, each with the size of a slice that is as long.
abbrev pub SizedIsOriginal : Type 0
SizedIsOriginal =
    (original : List ℕ) (copies : List (List ℕ)) (spliced : SplicedValue) (place : Place) (count : ℕ) → (is : IsSpliceOf copies spliced)
    → Contains spliced.places place → IsLinkOf original place.start place.end
    → (IsClaimedStart copies place.end place.start → ⊥) ⊎ IsOfTwo (IsClaimedFrom copies is.start place.end)
    → PassesParity (slice_range original place.start place.end)
    → IsAmongTried (map sized (versions_at copies place.start place.end)) (slice_range original place.start place.end) → place.standing ≡ Woven count
    → slice_range spliced.payload place.start place.end ≡ slice_range original place.start place.end

-- Where the original's slice passes its parity, and is one of the combinations of what the copies have there that are tried, with one bit
-- inverted: what is repaired is the original's slice.
abbrev pub RepairedIsOriginal : Type 0
RepairedIsOriginal =
    (original : List ℕ) (copies : List (List ℕ)) (spliced : SplicedValue) (place : Place) (count : ℕ) → IsSpliceOf copies spliced
    → Contains spliced.places place → IsRepair (versions_at copies place.start place.end) (slice_range original place.start place.end)
    → place.standing ≡ Repaired count
    → slice_range spliced.payload place.start place.end ≡ slice_range original place.start place.end

-- Where the original's slice is a vote of what the copies have there that passes its parity: what is voted is the original's slice.
abbrev pub VotedIsOriginal : Type 0
VotedIsOriginal =
    (original : List ℕ) (copies : List (List ℕ)) (spliced : SplicedValue) (place : Place) (count : ℕ) → IsSpliceOf copies spliced
    → Contains spliced.places place → IsVote (versions_at copies place.start place.end) (slice_range original place.start place.end)
    → place.standing ≡ Voted count
    → slice_range spliced.payload place.start place.end ≡ slice_range original place.start place.end

-- When a link's slice is among the combinations that are tried there: where it is a combination of regions of what the copies have there; and
-- where each byte of it is intact in some copy, and at distance 0 there are at most 4096 combinations of what the copies have there.
pub record LinksAreTried : Type 0 where
  pub regions : (original : List ℕ) (copies : List (List ℕ)) (copy : List ℕ) (start end : ℕ) → Contains copies copy → AllReach copies end
      → IsLinkOf original start end → IsCombination (versions_at copies start end) (slice_range original start end)
      → IsTriedAt copies start end (slice_range original start end)
  pub each_byte : (original : List ℕ) (copies : List (List ℕ)) (start end count : ℕ) → AllReach copies end → IsLinkOf original start end
      → AreBytes (slice_range original start end) → HasEachByte (slice_range original start end) (versions_at copies start end)
      → HasFewByByte (versions_at copies start end) count → IsTriedAt copies start end (slice_range original start end)

-- Where the copies are weavable, a frame that is given back is the original, and its places are the original's links.
abbrev pub GivenBackIsOriginal : Type 0
GivenBackIsOriginal =
    (original : List ℕ) (copies : List (List ℕ)) (spliced : SplicedValue) → AreCopiesOf original copies → AreWeavable original copies
    → IsSpliceOf copies spliced → IsGivenBack spliced → HasLinksOf original spliced × (spliced.payload ≡ original)

-- ---- copies that are near an original

-- The places are the original's links; a place is settled exactly where a copy has the link intact, and has the original's bytes there.
pub record IsNearSplice (original : List ℕ) (copies : List (List ℕ)) (spliced : SplicedValue) : Type 0 where
  pub places : HasLinksOf original spliced
  pub settled : All (λ place. (place.standing ≡ Settled) ↔ IsIntactInSome original copies place.start place.end) spliced.places
  pub bytes : All (λ place. place.standing ≡ Settled → slice_range spliced.payload place.start place.end ≡ slice_range original place.start place.end)
      spliced.places

-- Of near copies no piece contradicts the original from an end; where each link is intact in some copy, the splice is the original.
-- Where none contradicts the original from below either, the places are the original's links. At each that is among the combinations that are
-- tried of what the copies have there, what is woven is the original's slice; and where each link is, a frame that is given back is the
-- original. Of a link that is not among them nothing is claimed: a combination can have damage of several copies, which is longer than
-- 32 bits, so it can pass its parity.
pub record NearCopiesSplice : Type 0 where
  pub agree : (original : List ℕ) (copies : List (List ℕ)) → AreNearCopies original copies → AreConsistentWith original copies
  pub near : (original : List ℕ) (copies : List (List ℕ)) (spliced : SplicedValue) → AreNearCopies original copies
      → AreConsistentFromBelow original copies → IsSpliceOf copies spliced → IsNearSplice original copies spliced
  pub original : (original : List ℕ) (copies : List (List ℕ)) (spliced : SplicedValue) → AreNearCopies original copies
      → ((start end : ℕ) → IsLinkOf original start end → IsIntactInSome original copies start end) → IsSpliceOf copies spliced → IsSplicedOriginal original spliced
  pub kept : (original : List ℕ) (copies : List (List ℕ)) (spliced : SplicedValue) (place : Place) → AreNearCopies original copies
      → AreConsistentFromBelow original copies → IsSpliceOf copies spliced → Contains spliced.places place
      → IsAmong original copies place.start place.end → KeepsLink original copies spliced place
  pub woven : (original : List ℕ) (copies : List (List ℕ)) (spliced : SplicedValue) → AreNearCopies original copies
      → AreConsistentFromBelow original copies → ((start end : ℕ) → IsLinkOf original start end → IsAmong original copies start end) → IsSpliceOf copies spliced → IsGivenBack spliced
      → spliced.payload ≡ original
