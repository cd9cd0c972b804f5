-- What is found among byte strings that are tried.
use Rattle.std.specs.Prelude.{ℕ, List, Contains}
use Rattle.ffv1_slice.specs.Members.{IsOnly, IsOfTwo, IsOfNone}
use Rattle.ffv1_weave.specs.Checks.{PassesBy}
use Rattle.ffv1_weave.specs.declared.check.Check.{Check}
use Rattle.ffv1_weave.specs.declared.found.Found.{Found}
use Rattle.ffv1_weave.specs.declared.found.Found.TheVariants as found

-- one that is tried and passes
pub record PassesAmong (check : Check) (tried : List (List ℕ)) (bytes : List ℕ) : Type 0 where
  pub there : Contains tried bytes
  pub passes : PassesBy check bytes

-- what is found among those that are tried
abbrev pub IsFoundAmong : Check → List (List ℕ) → Found → Type 0
IsFoundAmong check tried found.Nothing = IsOfNone (PassesAmong check tried)
IsFoundAmong check tried (found.One bytes) = IsOnly (PassesAmong check tried) bytes.items
IsFoundAmong check tried found.Several = IsOfTwo (PassesAmong check tried)
