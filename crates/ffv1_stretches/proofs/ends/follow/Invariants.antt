use Rattle.std.proofs.Common.{ℕ, ◌<◌, None, map, get_or}
use Rattle.ffv1_stretches.specs.Stretches.{IsAfter}
use Rattle.ffv1_stretches.specs.Inner.Ends.{end_of}
use Rattle.ffv1_stretches.proofs.ends.follow.Given as goal

-- Each place so far is where the copy's stretches before end, or after that.
abbrev pub invariant-loop-index : goal.invariant-loop-index
invariant-loop-index l = (k : ℕ) → k < l.index → IsAfter (get_or (map end_of l.ends) k 0) (get_or l.places k None)
