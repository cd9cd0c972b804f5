use Rattle.std.proofs.Common.{map}
use Rattle.ffv1_stretches.specs.Copies.{state_of}
use Rattle.ffv1_stretches.proofs.PassLemmas.{AreReadTo}
use Rattle.ffv1_stretches.proofs.pass.read_stretch.Given as goal

-- The stretch was read of the copies so far.
abbrev pub invariant-loop-index : goal.invariant-loop-index
invariant-loop-index g l =
    AreReadTo l.stretch.size l.stretch.places l.index (map (state_of g.S.Source.log) l.initial.copies) (map (state_of g.S.Source.log) l.copies)
