-- What the small definitions say is so of the splice that the code makes, and they ask no more of an original and its copies.
use Rattle.std.specs.Prelude.{ℕ, ◌≡◌, List, Contains}
use Rattle.ffv1_bits.specs.Parity.{AreBytes}
use Rattle.ffv1_splice.specs.Splice.{SplicedValue, IsSpliceOf, IsGivenBack}
use Rattle.ffv1_splice.specs.Originals.{AreCopiesOf, AreConsistentWith, HaveEachLink, AreWeavable, AreNearCopies}
use Rattle.ffv1_splice.specs.Small.{IsJoinedOf, IsSettledAt, IsSplicedFrom, IsUncontradicted, IsWithinReach, IsNearAt}

-- ---- laws

-- Where all of the frame is given back, what is given is spliced from the copies.
abbrev pub GivenBackIsSpliced : Type 0
GivenBackIsSpliced = (copies : List (List ℕ)) (spliced : SplicedValue) → IsSpliceOf copies spliced → IsGivenBack spliced → IsSplicedFrom copies spliced.payload

-- Where an original is settled from the copies, it is given back.
abbrev pub SettledIsGivenBack : Type 0
SettledIsGivenBack =
    (copies : List (List ℕ)) (original : List ℕ) (spliced : SplicedValue) → IsJoinedOf (IsSettledAt copies) copies original → IsSpliceOf copies spliced
    → (spliced.payload ≡ original) × IsGivenBack spliced

-- ---- the same is asked of an original and its copies

-- An original whose links can be woven from copies that are of bytes, ..
abbrev pub WeavableIsWithinReach : Type 0
WeavableIsWithinReach =
    (copies : List (List ℕ)) (original : List ℕ) → AreCopiesOf original copies → AreWeavable original copies
    → ((copy : List ℕ) → Contains copies copy → AreBytes copy)
    → IsJoinedOf (λ start slice. IsUncontradicted copies start slice × IsWithinReach copies start slice) copies original

-- .. one to which copies are near, ..
abbrev pub NearCopiesAreNear : Type 0
NearCopiesAreNear = (copies : List (List ℕ)) (original : List ℕ) → AreNearCopies original copies → IsJoinedOf (IsNearAt copies) copies original

-- .. and one that no piece contradicts, and of which each link is a piece.
abbrev pub EachLinkIsSettled : Type 0
EachLinkIsSettled =
    (copies : List (List ℕ)) (original : List ℕ) → AreCopiesOf original copies → AreConsistentWith original copies → HaveEachLink original copies
    → IsJoinedOf (IsSettledAt copies) copies original
