-- Repairs: slices of which one bit is wrong in all versions.
use Rattle.std.specs.Prelude.{ℕ, ◌-◌, ◌*◌, ◌/◌, ◌%◌, ◌^◌, ◌<◌, ◌≤◌, ◌≡◌, List, [], ◌∷◌, length, slice_index, bit_xor}
use Rattle.ffv1_slice.specs.Members.{HasSameMembers, IsOnly}
use Rattle.ffv1_weave.specs.Checks.{PassesBy}
use Rattle.ffv1_weave.specs.Combinations.{IsCombinationBy, IsTriedBy}
use Rattle.ffv1_weave.specs.Parts.{written}
use Rattle.ffv1_weave.specs.Weave.{AreFew}
use Rattle.ffv1_weave.specs.declared.check.Check.TheVariants.{Slice}
use Rattle.ffv1_weave.specs.declared.splits.Split.{Split}
use Rattle.ffv1_weave.specs.declared.repairing.TheConstants.{MOST_REPAIRS}

-- The bytes with one bit inverted. Bits count from 0, and the first is that of the highest worth in the first byte.
abbrev pub inverted : List ℕ → ℕ → List ℕ
inverted bytes bit = written bytes (bit / 8) (bit_xor (slice_index bytes (bit / 8)) (2 ^ (7 - bit % 8)) ∷ [])

-- A repair that passes: a combination that is tried, with one bit inverted, which is a slice with its parity (RFC 9043, section 4.9.3).
pub record IsRepair (versions : List (List ℕ)) (bytes : List ℕ) : Type 0 where
  pub split : Split
  pub count : ℕ
  pub tried : IsTriedBy versions split count
  pub base : List ℕ
  pub combination : IsCombinationBy split versions base
  pub bit : ℕ
  pub inside : bit < 8 * length base
  pub is : bytes ≡ inverted base bit
  pub passes : PassesBy Slice bytes

-- These bytes are the only repair that passes, and so many are tried: each combination with each of its bits inverted, at most 2^20.
pub record IsRepairOf (versions : List (List ℕ)) (bytes : List ℕ) (count : ℕ) : Type 0 where
  pub only : IsOnly (IsRepair versions) bytes
  pub combinations : ℕ
  pub few : AreFew versions combinations
  pub counted : count ≡ combinations * (8 * length bytes)
  pub within : count ≤ MOST_REPAIRS

-- ---- laws

-- The same versions have one repair.
pub record SameVersionsRepair : Type 0 where
  pub same : (versions others : List (List ℕ)) (bytes : List ℕ) (count : ℕ) → HasSameMembers versions others → IsRepairOf versions bytes count
      → IsRepairOf others bytes count
  pub one : (versions : List (List ℕ)) (bytes others : List ℕ) (count other : ℕ) → IsRepairOf versions bytes count
      → IsRepairOf versions others other → (bytes ≡ others) × (count ≡ other)

-- Where the original passes, and is a combination that is tried with one bit inverted, nothing else is repaired.
abbrev pub OriginalIsRepaired : Type 0
OriginalIsRepaired =
    (original : List ℕ) (versions : List (List ℕ)) (bytes : List ℕ) (count : ℕ) → IsRepair versions original → IsRepairOf versions bytes count
    → bytes ≡ original
