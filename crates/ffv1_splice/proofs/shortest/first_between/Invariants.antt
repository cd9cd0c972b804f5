use Rattle.std.specs.Prelude.{take, map}
use Rattle.ffv1_splice.proofs.ShortestSteps.{IsFirstOf}
use Rattle.ffv1_splice.proofs.shortest.first_between.Given as goal

-- The first of the copies so far.
abbrev pub invariant-loop-copy : goal.invariant-loop-copy
invariant-loop-copy l = IsFirstOf (take l.copy-index (map (λ copy. copy.now) l.copies)) l.bound l.start l.from l.within l.first
