-- The versions that pass, as the code counts them: none, one alone, or two that differ.
use Rattle.std.specs.Prelude.{ℕ, List}
use Rattle.ffv1_splice.specs.Inner.Tally.{Tally}
use Rattle.ffv1_splice.specs.Inner.Tally.Tally.{none, one, two}
use Rattle.ffv1_mend.specs.declared.passing.Passing.{Passing}
use Rattle.ffv1_mend.specs.declared.passing.Passing.TheVariants as passing

abbrev pub passing_counted : Passing → Tally (List ℕ)
passing_counted passing.None = none
passing_counted (passing.One version) = one version.now
passing_counted passing.Two = two
