-- The versions that pass a check.
use Rattle.std.specs.Prelude.{ℕ, List, Contains}
use Rattle.ffv1_weave.specs.Checks.{PassesBy}
use Rattle.ffv1_weave.specs.declared.check.Check.{Check}

-- a version that passes
pub record IsPassing (check : Check) (versions : List (List ℕ)) (version : List ℕ) : Type 0 where
  pub there : Contains versions version
  pub passes : PassesBy check version
