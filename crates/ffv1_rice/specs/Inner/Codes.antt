-- How bits begin, and why a number is refused.
use Rattle.std.specs.Prelude.{◌≡◌, ℕ, Bool, List, ◌++◌, length}
use Rattle.ffv1_rice.specs.declared.code.CodeFault.{CodeFault}
use Rattle.ffv1_rice.specs.declared.code.CodeFault.TheVariants as faults
use Rattle.ffv1_rice.specs.Codes.{FooterGivesCode, IsNeedlessEscape, IsLargeCode}

-- The bits begin with these, of which there are so many.
pub record BitsBegin (bits front : List Bool) (count : ℕ) : Type 0 where
  pub rest : List Bool
  pub same : bits ≡ front ++ rest
  pub long : length front ≡ count

-- ---- the codes of values and differences

-- the faults of a code's number at the coded depth n and the parameter k
abbrev pub IsNumberFault : ℕ → ℕ → List Bool → CodeFault → Type 0
IsNumberFault n k bits faults.Truncated = FooterGivesCode n k bits
IsNumberFault n k bits faults.EscapeNotNeeded = IsNeedlessEscape n k bits
IsNumberFault n k bits faults.CodeTooLarge = IsLargeCode n k bits
IsNumberFault n k bits faults.LevelTooLarge = ⊥
