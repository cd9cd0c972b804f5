use Rattle.std.proofs.Common.{◌≡◌, map, take}
use Rattle.ffv1_stretches.specs.Stretches.{ends_after}
use Rattle.ffv1_stretches.specs.Inner.Ends.{end_of}
use Rattle.ffv1_stretches.proofs.ends.next_ends.Given as goal

abbrev pub invariant-loop-index : goal.invariant-loop-index
invariant-loop-index l = map end_of l.next.items ≡ take l.index (ends_after (map end_of l.ends) l.stretch)
