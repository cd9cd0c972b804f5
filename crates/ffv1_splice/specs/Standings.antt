-- How a place of the spliced frame stands.
use Rattle.std.specs.Prelude.{ℕ, ◌-◌, ◌<◌, ◌^◌, ◌≡◌, ◌⊎◌, List, ◌++◌, Contains, length, map, take, drop, min, slice_index, slice_range, sum}
use Rattle.byteorder.specs.Endian.{big_bytes}
use Rattle.ffv1_bits.specs.Parity.{AreBytes}
use Rattle.ffv1_slice.specs.Chain.{LinkValue}
use Rattle.ffv1_slice.specs.Members.{IsOnly, IsOfTwo, IsOfNone}
use Rattle.ffv1_weave.specs.Weave.{Weave, IsWeaveOf}
use Rattle.ffv1_weave.specs.Weave.Weave.{woven, disputed, missing, too_many}
use Rattle.ffv1_weave.specs.Repairs.{IsRepairOf}
use Rattle.ffv1_weave.specs.Votes.{IsVoteOf}
use Rattle.ffv1_weave.specs.declared.check.Check.TheVariants.{Slice}
use Rattle.ffv1_splice.specs.Pieces.{HasContent, IsPiece, IsClaimedStart, IsLeast}
use Rattle.ffv1_splice.specs.declared.place.Standing.{Standing}
use Rattle.ffv1_splice.specs.declared.place.Standing.TheVariants.{Settled, Woven, Voted, Repaired, Disputed, Missing, Undivided}

-- what each copy has between two places
abbrev pub versions_at : List (List ℕ) → (start end : ℕ) → List (List ℕ)
versions_at copies start end = map (λ copy. slice_range copy start end) copies

-- No piece ends there. The copies whose footer there claims a start all claim this one, and this is the weave of what the copies have
-- from it on.
pub record IsWeaveAt (copies : List (List ℕ)) (start end : ℕ) (weave : Weave) : Type 0 where
  pub none : IsOfNone (IsPiece copies end)
  pub claim : IsOnly (IsClaimedStart copies end) start
  pub weave' : IsWeaveOf Slice (versions_at copies start end) weave

-- The bytes with the size field of a slice that is as long as they are: three bytes, the highest first, eight before the end (RFC 9043,
-- section 4.9.1).
abbrev pub sized : List ℕ → List ℕ
sized bytes = take (length bytes - 8) bytes ++ (big_bytes 3 (length bytes - 8) ++ drop (length bytes - 5) bytes)

-- No piece ends there, and no footer there claims a start. But the copies begin with a slice, so its size is known, where a size field has
-- room for it: this is the weave of what they have up to there, each with that size.
pub record IsWeaveFromFront (copies : List (List ℕ)) (end : ℕ) (weave : Weave) : Type 0 where
  pub none : IsOfNone (IsPiece copies end)
  pub no_claim : IsOfNone (IsClaimedStart copies end)
  pub content : HasContent 0 end
  pub short : end - 8 < 2 ^ 24
  pub weave' : IsWeaveOf Slice (map sized (versions_at copies 0 end)) weave

-- No piece ends there, and the footers there claim several starts. From each of them what the copies have is woven, each with the size of a
-- slice that is as long: from this one come these bytes, and nothing comes from any other. The list has how many combinations were tried
-- from each place before the end, 0 where no footer claims it, and the count is their sum, or 2^64 - 1 where that is greater. The copies
-- are of bytes, as all that the code reads, so that a size has one spelling.
pub record IsWeaveOfSeveral (copies : List (List ℕ)) (start end : ℕ) (bytes : List ℕ) (count : ℕ) : Type 0 where
  pub are_bytes : (copy : List ℕ) → Contains copies copy → AreBytes copy
  pub none : IsOfNone (IsPiece copies end)
  pub several : IsOfTwo (IsClaimedStart copies end)
  pub claim : IsClaimedStart copies end start
  pub tried : List ℕ
  pub places : length tried ≡ end
  pub weave' : IsWeaveOf Slice (map sized (versions_at copies start end)) (woven bytes (slice_index tried start))
  pub others : (other : ℕ) → IsClaimedStart copies end other → (other ≡ start → ⊥)
      → IsWeaveOf Slice (map sized (versions_at copies other end)) (missing (slice_index tried other))
  pub no_claim : (other : ℕ) → (IsClaimedStart copies end other → ⊥) → slice_index tried other ≡ 0
  pub counted : count ≡ min (sum tried) (2 ^ 64 - 1)

-- No combination of what the copies have from the one start that is claimed is a slice, or there are more than are tried.
abbrev pub IsUnwovenAt : List (List ℕ) → (start end : ℕ) → Type 0
IsUnwovenAt copies start end = ((count : ℕ) × IsWeaveAt copies start end (missing count)) ⊎ IsWeaveAt copies start end too_many

-- It is not woven, but of what most copies have there one combination alone is a slice: these bytes, of so many that are tried.
pub record IsVoteAt (copies : List (List ℕ)) (start end : ℕ) (bytes : List ℕ) (count : ℕ) : Type 0 where
  pub unwoven : IsUnwovenAt copies start end
  pub vote : IsVoteOf (versions_at copies start end) bytes count

-- It is not voted.
abbrev pub IsUnvotedAt : List (List ℕ) → (start end : ℕ) → Type 0
IsUnvotedAt copies start end = (bytes : List ℕ) (count : ℕ) → IsVoteOf (versions_at copies start end) bytes count → ⊥

-- One start alone is claimed, no combination of what the copies have from it on is a slice, and there is no vote. But with one bit inverted
-- one combination is a slice: these bytes alone, of so many that are tried.
pub record IsRepairAt (copies : List (List ℕ)) (start end : ℕ) (bytes : List ℕ) (count : ℕ) : Type 0 where
  pub combinations : ℕ
  pub missed : IsWeaveAt copies start end (missing combinations)
  pub unvoted : IsUnvotedAt copies start end
  pub repair : IsRepairOf (versions_at copies start end) bytes count

-- One start alone is claimed, no combination of what the copies have from it on is a slice, and they have no repair. Or there are more
-- combinations than are tried. And there is no vote.
abbrev pub IsMissingAt : List (List ℕ) → (start end : ℕ) → Type 0
IsMissingAt copies start end =
    ((((count : ℕ) × IsWeaveAt copies start end (missing count))
    × ((bytes : List ℕ) (count : ℕ) → IsRepairOf (versions_at copies start end) bytes count → ⊥))
    ⊎ IsWeaveAt copies start end too_many)
    × IsUnvotedAt copies start end

-- A gap: the copies whose footer there claims a start, of which there is one, all claim the same, and the lexicographically smallest of the
-- copies' bytes stand there.
pub record IsGap (copies : List (List ℕ)) (start end : ℕ) (bytes : List ℕ) : Type 0 where
  pub claim : IsOnly (IsClaimedStart copies end) start
  pub least : IsLeast copies start end bytes

-- Settled: the only piece that ends there. Where no piece does, the copies' versions are woven, from the start that is claimed, or from the
-- one of several that gives a slice, or else from the front. Voted: they are not woven, but one alone of what most of them have is a slice.
-- Repaired: no combination of versions is a slice, and nothing is voted, but one alone is with one bit inverted. Disputed: two pieces that
-- differ end there, or two combinations of versions are a slice; missing: no piece and no combination is one, and there is no repair, or
-- there are too many combinations to be tried; and nothing is voted.
abbrev pub StandsAs : List (List ℕ) → (start end : ℕ) → List ℕ → Standing → Type 0
StandsAs copies start end bytes Settled = IsOnly (IsPiece copies end) (record { start = start; bytes = bytes })
StandsAs copies start end bytes (Woven count) =
    IsWeaveAt copies start end (woven bytes count) ⊎ ((start ≡ 0) × IsWeaveFromFront copies end (woven bytes count))
    ⊎ IsWeaveOfSeveral copies start end bytes count
StandsAs copies start end bytes (Voted count) = IsVoteAt copies start end bytes count
StandsAs copies start end bytes (Repaired count) = IsRepairAt copies start end bytes count
StandsAs copies start end bytes Disputed =
    (IsOfTwo (IsPiece copies end) ⊎ IsWeaveAt copies start end disputed) × IsGap copies start end bytes
StandsAs copies start end bytes Missing = IsMissingAt copies start end × IsGap copies start end bytes
StandsAs copies start end bytes Undivided = ⊥

-- No place ends there: no piece is the only one, no start is claimed alone, and nothing is woven from the front or from several starts.
pub record IsStop (copies : List (List ℕ)) (end : ℕ) : Type 0 where
  pub unsettled : (piece : LinkValue) → IsOnly (IsPiece copies end) piece → ⊥
  pub no_claim : (start : ℕ) → IsOnly (IsClaimedStart copies end) start → ⊥
  pub unclaimed : (bytes : List ℕ) (count : ℕ) → IsWeaveFromFront copies end (woven bytes count) → ⊥
  pub unwoven : (start : ℕ) (bytes : List ℕ) (count : ℕ) → IsWeaveOfSeveral copies start end bytes count → ⊥
