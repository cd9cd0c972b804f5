use Rattle.std.specs.Prelude.{take, map}
use Rattle.ffv1_splice.proofs.Common.{IsBound}
use Rattle.ffv1_splice.proofs.settling.bound_below.Given as goal

-- The bound of the copies so far.
abbrev pub invariant-loop-copy : goal.invariant-loop-copy
invariant-loop-copy l = IsBound (take l.copy-index (map (λ copy. copy.now) l.copies)) l.end l.bound
