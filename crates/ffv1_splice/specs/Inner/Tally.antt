-- How many values a fact holds of, as it is counted: of none, of one alone, or of two.
use Rattle.std.specs.Prelude.{ℕ, ◌≡◌, ◌⊎◌}
use Rattle.ffv1_slice.specs.Chain.{LinkValue}
use Rattle.ffv1_slice.specs.Members.{IsOnly, IsOfTwo, IsOfNone}
use Rattle.ffv1_splice.specs.declared.tally.Pieces.{Pieces}
use Rattle.ffv1_splice.specs.declared.tally.Pieces.TheVariants as pieces
use Rattle.ffv1_splice.specs.declared.tally.Claimed.{Claimed}
use Rattle.ffv1_splice.specs.declared.tally.Claimed.TheVariants as claims

pub data Tally (X : Type 0) : Type 0 where
  none : Tally X
  one : X → Tally X
  two : Tally X

-- A fact holds of no value, of one alone, or of two that differ.
abbrev pub Tallies : {X : Type 0} → (X → Type 0) → Tally X → Type 0
Tallies P none = IsOfNone P
Tallies P (one value) = IsOnly P value
Tallies P two = IsOfTwo P

-- the count with one more value
abbrev pub TalliesMore : {X : Type 0} → Tally X → X → Tally X → Type 0
TalliesMore none value after = after ≡ one value
TalliesMore (one first) value after = ((first ≡ value) × (after ≡ one first)) ⊎ ((first ≡ value → ⊥) × (after ≡ two))
TalliesMore two value after = after ≡ two

-- the count with all values of another count
abbrev pub TalliesBoth : {X : Type 0} → Tally X → Tally X → Tally X → Type 0
TalliesBoth claim none after = after ≡ claim
TalliesBoth claim (one value) after = TalliesMore claim value after
TalliesBoth claim two after = after ≡ two

-- ---- what the code counts

abbrev pub pieces_tally : Pieces → Tally LinkValue
pieces_tally pieces.None = none
pieces_tally (pieces.One start bytes) = one (record { start = start; bytes = bytes.now })
pieces_tally pieces.Two = two

abbrev pub claimed_tally : Claimed → Tally ℕ
claimed_tally claims.None = none
claimed_tally (claims.One place) = one place
claimed_tally claims.Two = two
