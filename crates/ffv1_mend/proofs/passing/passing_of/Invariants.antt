use Rattle.std.specs.Prelude.{take, map}
use Rattle.ffv1_splice.specs.Inner.Tally.{Tallies}
use Rattle.ffv1_mend.specs.Passing.{IsPassing}
use Rattle.ffv1_mend.specs.Inner.Passing.{passing_counted}
use Rattle.ffv1_mend.proofs.passing.passing_of.Given as goal

-- what was counted of the versions so far
abbrev pub invariant-loop-version : goal.invariant-loop-version
invariant-loop-version l = Tallies (IsPassing l.check (take l.version-index (map (λ version. version.now) l.versions))) (passing_counted l.passing)
