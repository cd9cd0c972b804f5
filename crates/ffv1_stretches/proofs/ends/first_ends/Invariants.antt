use Rattle.std.proofs.Common.{◌≡◌, map, replicate}
use Rattle.ffv1_stretches.specs.Inner.Ends.{end_of}
use Rattle.ffv1_stretches.proofs.ends.first_ends.Given as goal

abbrev pub invariant-loop-copy : goal.invariant-loop-copy
invariant-loop-copy l = map end_of l.ends.items ≡ replicate l._copy 0
