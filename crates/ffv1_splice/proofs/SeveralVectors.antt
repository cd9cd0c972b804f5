-- Two copies of a slice, of which one is damaged in its first byte, and the other in its size field, so that they claim two starts: it is
-- woven from the one at which it begins.
use Rattle.ffv1_bits.proofs.Bytes.{bytes_by_test}
use Rattle.ffv1_splice.proofs.Common.{◌≡◌, ℕ, zero, suc, ◌<◌, List, [], ◌∷◌, length, get_or, map, replicate, refl, sym, ap, ◌∙◌, subst, arith, inl, inr, ◌⊎◌, Contains, slice_range, ext_get_or, number_bits, bits_of, AreBytes, PassesParity, polynomial_of, divided, remainder_of, FooterGives, IsOfNone, splits, IsSegment, IsCombinationBy, IsTriedBy, IsWeaveOf, woven, missing, Slice, tried_combination, IsPiece, IsClaimedStart, versions_at, sized, StandsAs, Woven}
use Rattle.ffv1_slice.proofs.NearVectors as vectors
use Rattle.ffv1_splice.proofs.FirstSlices.{same_inside}
use Rattle.ffv1_splice.proofs.SeveralSteps.{zeros_anywhere}
use Rattle.ffv1_splice.proofs.Vectors.{slice_with, first_of, tried_first, twice_one, twice_few, first_slice_passes}

abbrev damaged_first : List ℕ
damaged_first = slice_with 0xFC 0 0 3

-- its size field gives a slice that begins a byte later
abbrev damaged_size : List ℕ
damaged_size = slice_with 0xFD 0 0 2

abbrev pub damaged_copies : List (List ℕ)
damaged_copies = damaged_first ∷ damaged_size ∷ []

-- what both copies have from there on
abbrev later : List ℕ
later = 0xF6 ∷ 0x80 ∷ 0 ∷ 0 ∷ 2 ∷ 0 ∷ 0x1C ∷ 0x3E ∷ 0xA0 ∷ 0x9B ∷ []

abbrev two : List (List ℕ)
two = damaged_first ∷ vectors.first_slice ∷ []

from_its_start : map sized (versions_at damaged_copies 0 11) ≡ two
from_its_start = refl

from_the_other : map sized (versions_at damaged_copies 1 11) ≡ later ∷ later ∷ []
from_the_other = refl

damaged_first_fails : PassesParity damaged_first → ⊥
unfolding number_bits bits_of polynomial_of divided remainder_of
damaged_first_fails passes = absurd (omega arith)

later_fails : PassesParity later → ⊥
unfolding number_bits bits_of polynomial_of divided remainder_of
later_fails passes = absurd (omega arith)

-- ---- what is claimed

claim_which : (copy : List ℕ) (start : ℕ) → Contains damaged_copies copy → FooterGives copy start 11
    → ((copy ≡ damaged_first) × (start ≡ 0)) ⊎ ((copy ≡ damaged_size) × (start ≡ 1))
claim_which copy start (zero, lt, is) cut = grind arith
claim_which copy start (suc zero, lt, is) cut = grind arith
claim_which copy start (suc (suc k), lt, is) cut = absurd (omega arith)

first_claim : IsClaimedStart damaged_copies 11 0
first_claim = record { copy = damaged_first; there = (0, omega arith, refl); cut = refl; content = omega arith }

other_claim : IsClaimedStart damaged_copies 11 1
other_claim = record { copy = damaged_size; there = (1, omega arith, refl); cut = refl; content = omega arith }

-- neither is a piece
no_piece : IsOfNone (IsPiece damaged_copies 11)
no_piece piece h = elim (claim_which h.copy piece.start h.there h.cut) [
  | inl at ↦ damaged_first_fails (subst PassesParity
      (h.bytes ∙ ap (λ s. slice_range h.copy s 11) at.1 ∙ ap (λ c. slice_range c 0 11) at.0) h.passes)
  | inr at ↦ grind (arith, later_fails)
]

-- ---- from the first start

which : (version : List ℕ) → Contains two version → (version ≡ damaged_first) ⊎ (version ≡ vectors.first_slice)
which version (zero, lt, is) = inl (sym is)
which version (suc zero, lt, is) = inr (sym is)
which version (suc (suc k), lt, is) = absurd (omega arith)

damaged_there : Contains two damaged_first
damaged_there = (0, omega arith, refl)

right_there : Contains two vectors.first_slice
right_there = (1, omega arith, refl)

first_byte : IsSegment 0 two 0 1
first_byte = grind (arith, damaged_there, right_there)

same_rest : (i : ℕ) (one other : List ℕ) → Contains two one → Contains two other → get_or one (suc i) 0 ≡ get_or other (suc i) 0
same_rest i one other there here = grind (arith, which)

length_eleven : (version : List ℕ) → Contains two version → length version ≡ 11
length_eleven version there = elim (which version there) [ inl is ↦ ap length is | inr is ↦ ap length is ]

either : (bytes : List ℕ) → IsCombinationBy (first_of splits (omega arith)) two bytes → (bytes ≡ damaged_first) ⊎ (bytes ≡ vectors.first_slice)
either bytes is =
    let version = is.parts 0 1 first_byte in
    let front : get_or bytes 0 0 ≡ get_or version.0 0 0 = same_inside bytes version.0 0 1 0 (omega arith) (omega arith) version.2 in
    let same : bytes ≡ version.0 = ext_get_or 0 bytes version.0 (is.same_length version.0 version.1) (λ i lt. at version.0 version.1 front i) in
    elim (which version.0 version.1) [ inl damaged ↦ inl (same ∙ damaged) | inr right ↦ inr (same ∙ right) ]
  where
    at : (version : List ℕ) → Contains two version → get_or bytes 0 0 ≡ get_or version 0 0 → (i : ℕ) → get_or bytes i 0 ≡ get_or version i 0
    at version there front zero = front
    at version there front (suc i) = is.agrees (suc i) (λ one other in_one in_other. same_rest i one other in_one in_other) version there

itself : (version : List ℕ) → Contains two version → IsCombinationBy (first_of splits (omega arith)) two version
itself version here = grind (arith, length_eleven)

abbrev numbered : ℕ → List ℕ
numbered zero = damaged_first
numbered (suc k) = vectors.first_slice

number_there : (k : ℕ) → Contains two (numbered k)
number_there zero = damaged_there
number_there (suc k) = right_there

apart : damaged_first ≡ vectors.first_slice → ⊥
apart same = let e : get_or damaged_first 0 0 ≡ get_or vectors.first_slice 0 0 = ap (λ z. get_or z 0 0) same in absurd (omega arith)

once : (j k : ℕ) → j < 2 → k < 2 → numbered j ≡ numbered k → j ≡ k
once zero zero low lt same = refl
once zero (suc k) low lt same = absurd (apart same)
once (suc j) zero low lt same = absurd (apart (sym same))
once (suc j) (suc k) low lt same = omega arith

tried_two : IsTriedBy two (first_of splits (omega arith)) 2
tried_two = tried_first two 2 (record {
  numbered = record {
    at = numbered;
    are = λ k lt. itself (numbered k) (number_there k);
    all = λ bytes is. elim (either bytes is) [ inl damaged ↦ (0, omega arith, sym damaged) | inr right ↦ (1, omega arith, sym right) ];
    once = once;
  };
  few = omega arith;
})

woven_of_two : IsWeaveOf Slice two (woven vectors.first_slice 2)
woven_of_two = (
  record {
    there = grind (arith, tried_two, itself, right_there, first_slice_passes);
    others = λ other valid. elim (either other (tried_combination two Slice (first_of splits (omega arith)) 2 tried_two other valid)) [
      | inl damaged ↦ absurd (damaged_first_fails (subst PassesParity damaged valid.passes.1))
      | inr right ↦ right
    ];
  },
  record { split = _; tried = tried_two },
)

missing_of_later : IsWeaveOf Slice (later ∷ later ∷ []) (missing 1)
missing_of_later = (λ bytes valid. later_fails (subst PassesParity (twice_one later valid.split bytes valid.combination) valid.passes.1), twice_few later)

-- ---- from both

are_bytes : (copy : List ℕ) → Contains damaged_copies copy → AreBytes copy
are_bytes copy (zero, lt, is) = subst AreBytes is (bytes_by_test damaged_first refl)
are_bytes copy (suc zero, lt, is) = subst AreBytes is (bytes_by_test damaged_size refl)
are_bytes copy (suc (suc k), lt, is) = absurd (omega arith)

-- how many combinations were tried from each place
abbrev tried : List ℕ
tried = 2 ∷ 1 ∷ replicate 9 0

none_tried : (start : ℕ) → (IsClaimedStart damaged_copies 11 start → ⊥) → get_or tried start 0 ≡ 0
none_tried zero no_claim = absurd (no_claim first_claim)
none_tried (suc zero) no_claim = absurd (no_claim other_claim)
none_tried (suc (suc start)) no_claim = zeros_anywhere 9 start

from_another : (start : ℕ) → IsClaimedStart damaged_copies 11 start → (start ≡ 0 → ⊥)
    → IsWeaveOf Slice (map sized (versions_at damaged_copies start 11)) (missing (get_or tried start 0))
from_another start claim other = elim (claim_which claim.copy start claim.there claim.cut) [
  | inl at ↦ absurd (other at.1)
  | inr at ↦ subst (λ s. IsWeaveOf Slice (map sized (versions_at damaged_copies s 11)) (missing (get_or tried s 0))) (sym at.1) missing_of_later
]

-- so the slice is woven, of two combinations from its start and one from the other
pub damaged_stands : StandsAs damaged_copies 0 11 vectors.first_slice (Woven 3)
damaged_stands = inr (inr (record {
  are_bytes = are_bytes;
  none = no_piece;
  several = record { one = 0; other = 1; one_there = first_claim; other_there = other_claim; differ = λ same. absurd (omega arith) };
  claim = first_claim;
  tried = tried;
  places = refl;
  weave' = woven_of_two;
  others = from_another;
  no_claim = none_tried;
  counted = refl;
}))
