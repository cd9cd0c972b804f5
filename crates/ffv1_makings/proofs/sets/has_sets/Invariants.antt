use Rattle.std.proofs.Common.{◌<◌, ℕ, get_or}
use Rattle.ffv1_makings.specs.declared.spec.SetSpec.{SetSpec}
use Rattle.ffv1_makings.specs.Inner.ReadBack.{ShowsSet}
use Rattle.ffv1_makings.proofs.sets.has_sets.Given as goal

-- The sets so far are those asked for.
abbrev pub invariant-loop-set : goal.invariant-loop-set
invariant-loop-set l = (k : ℕ) (d : SetSpec) → k < l.set → ShowsSet l.recording l.coder k (get_or l.sets k d)
