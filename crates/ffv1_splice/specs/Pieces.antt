-- What copies of a frame have and claim of the slice that ends at a place, by its footer alone (RFC 9043, section 4.9). No setup is asked
-- for: every FFV1 version 3 frame with parity has these footers, whatever its samples are coded by.
use Rattle.std.specs.Prelude.{ℕ, ◌+◌, ◌<◌, ◌≤◌, ◌≡◌, List, Contains, length, slice_range}
use Rattle.std.specs.Ordering.{nat_cmp}
use Rattle.std.specs.Cmp.Lexicographic.{slice_cmp}
use Rattle.std.specs.declared.cmp.Ordering.TheVariants.{Less}
use Rattle.ffv1_bits.specs.Parity.{PassesParity}
use Rattle.ffv1_slice.specs.Chain.{FooterGives, LinkValue}

-- each copy reaches to the end
abbrev pub AllReach : List (List ℕ) → ℕ → Type 0
AllReach copies end = (copy : List ℕ) → Contains copies copy → end ≤ length copy

-- The slice between two places has content before its footer. One without is neither a piece nor a claimed start: a sector of zeros reads
-- as a row of links of size 0, each of which passes its parity, and no slice of a frame is without content.
abbrev pub HasContent : (start end : ℕ) → Type 0
HasContent start end = start + 8 < end

-- A piece: what lies in some copy between the end and the start that the copy's footer there gives, where it has content and passes
-- its parity.
pub record IsPiece (copies : List (List ℕ)) (end : ℕ) (piece : LinkValue) : Type 0 where
  pub copy : List ℕ
  pub there : Contains copies copy
  pub cut : FooterGives copy piece.start end
  pub content : HasContent piece.start end
  pub bytes : piece.bytes ≡ slice_range copy piece.start end
  pub passes : PassesParity piece.bytes

-- The footer that ends there in some copy claims this start, of a slice that has content, whatever the parity.
pub record IsClaimedStart (copies : List (List ℕ)) (end start : ℕ) : Type 0 where
  pub copy : List ℕ
  pub there : Contains copies copy
  pub cut : FooterGives copy start end
  pub content : HasContent start end

-- It claims this start, which does not lie before a place.
pub record IsClaimedFrom (copies : List (List ℕ)) (from end start : ℕ) : Type 0 where
  pub claim : IsClaimedStart copies end start
  pub beyond : from ≤ start

-- ---- pieces by where they begin

-- what lies from a place on: its end, and its bytes
pub record PieceFrom : Type 0 where
  pub end : ℕ
  pub bytes : List ℕ

-- A piece that begins at a place, and ends at a bound or before it.
pub record IsPieceFrom (copies : List (List ℕ)) (bound start : ℕ) (piece : PieceFrom) : Type 0 where
  pub there : IsPiece copies piece.end (record { start = start; bytes = piece.bytes })
  pub within : piece.end ≤ bound

-- one that ends first
pub record IsShortest (copies : List (List ℕ)) (bound start : ℕ) (piece : PieceFrom) : Type 0 where
  pub there : IsPieceFrom copies bound start piece
  pub least : (other : PieceFrom) → IsPieceFrom copies bound start other → piece.end ≤ other.end

-- ---- what lies there if no piece decides

-- The bytes are those of a copy between two places, and no copy has lexicographically smaller ones there: the first byte that differs
-- decides.
pub record IsLeast (copies : List (List ℕ)) (start end : ℕ) (bytes : List ℕ) : Type 0 where
  pub copy : List ℕ
  pub there : Contains copies copy
  pub lies : bytes ≡ slice_range copy start end
  pub least : (other : List ℕ) → Contains copies other → slice_cmp nat_cmp (slice_range other start end) bytes ≡ Less → ⊥
