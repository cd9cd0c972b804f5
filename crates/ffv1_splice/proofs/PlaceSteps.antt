-- The place that ends at an end of the splice: how long it is, and how it stands.
use Rattle.ffv1_splice.proofs.Common.{◌≡◌, ℕ, ◌+◌, ◌≤◌, List, length, refl, sym, ◌∙◌, inl, inr, arith, FooterGives, LinkValue, length-range, IsOnly, IsOfTwo, IsOfNone, AllReach, IsPiece, IsClaimedStart, IsLeast, Weave, IsWeaveOf, missing, too_many, Slice, versions_at, IsWeaveAt, IsUnwovenAt, IsMissingAt, StandsAs, IsGap, IsPlaced, written, Standing, Tallies, claimed_tally, Claimed}
use Rattle.ffv1_splice.specs.declared.tally.Claimed.TheVariants as starts

-- ---- how many differ

pub none_not_only : {X : Type 0} (P : X → Type 0) → IsOfNone P → (x : X) → IsOnly P x → ⊥
none_not_only P none x h = none x h.there

pub two_not_only : {X : Type 0} (P : X → Type 0) → IsOfTwo P → (x : X) → IsOnly P x → ⊥
two_not_only P two x h = two.differ (h.others two.one two.one_there ∙ sym (h.others two.other two.other_there))

-- where not one start alone is claimed, none is
pub no_claim : (P : ℕ → Type 0) (claim : Claimed) → Tallies P (claimed_tally claim) → ((x : ℕ) → claim ≡ starts.One x → ⊥) → (start : ℕ) → IsOnly P start → ⊥
no_claim P starts.None h apart = none_not_only P h
no_claim P (starts.One x) h apart = λ start only. apart x refl
no_claim P starts.Two h apart = two_not_only P h

pub two_not_none : {X : Type 0} (P : X → Type 0) → IsOfTwo P → IsOfNone P → ⊥
two_not_none P two none = none two.one two.one_there

-- ---- how long a place is

pub cut_below : (copy : List ℕ) (start end : ℕ) → FooterGives copy start end → start + 8 ≤ end
cut_below copy start end cut = omega arith

pub claim_below : (copies : List (List ℕ)) (start end : ℕ) → IsClaimedStart copies end start → start + 8 ≤ end
claim_below copies start end h = cut_below h.copy start end h.cut

pub piece_size : (copies : List (List ℕ)) (end : ℕ) (piece : LinkValue) → AllReach copies end → IsPiece copies end piece → piece.start + length piece.bytes ≡ end
piece_size copies end piece reach h = grind (arith, cut_below, length-range)

pub least_size : (copies : List (List ℕ)) (start end : ℕ) (bytes : List ℕ) → AllReach copies end → start ≤ end → IsLeast copies start end bytes
    → start + length bytes ≡ end
least_size copies start end bytes reach below h = grind (arith, length-range)

pub gap_size : (copies : List (List ℕ)) (start end : ℕ) (bytes : List ℕ) → AllReach copies end → IsGap copies start end bytes → start + length bytes ≡ end
gap_size copies start end bytes reach h =
    least_size copies start end bytes reach (omega (arith, claim_below copies start end h.claim.there)) h.least

-- ---- how it stands

pub stands_weave : (copies : List (List ℕ)) (start end : ℕ) (weave : Weave) → IsOfNone (IsPiece copies end) → IsOnly (IsClaimedStart copies end) start
    → IsWeaveOf Slice (versions_at copies start end) weave → IsWeaveAt copies start end weave
stands_weave copies start end weave none claim is = record { none = none; claim = claim; weave' = is }

-- where nothing is woven, there is a weave, which is empty
pub unwoven_weave : (copies : List (List ℕ)) (start end : ℕ) → IsUnwovenAt copies start end → (weave : Weave) × IsWeaveAt copies start end weave
unwoven_weave copies start end (inl h) = (missing h.0, h.1)
unwoven_weave copies start end (inr h) = (too_many, h)

-- where a place is missing, nothing is woven
pub missing_unwoven : (copies : List (List ℕ)) (start end : ℕ) → IsMissingAt copies start end → IsUnwovenAt copies start end
missing_unwoven copies start end (inl h, unvoted) = inl h.0
missing_unwoven copies start end (inr h, unvoted) = inr h

pub placed_as : (copies : List (List ℕ)) (start end : ℕ) (old new bytes : List ℕ) (standing : Standing) → StandsAs copies start end bytes standing
    → start + length bytes ≡ end → new ≡ written old start bytes
    → IsPlaced copies end old new (record { start = start; end = end; standing = standing })
placed_as copies start end old new bytes standing stands size is = grind arith
