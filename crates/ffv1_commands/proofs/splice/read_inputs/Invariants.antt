use Rattle.std.proofs.Common.{take, map}
use Rattle.ffv1_commands.specs.InTurn.{AreKeptFrom, AreTaken}
use Rattle.ffv1_commands.proofs.splice.read_inputs.Given as goal

-- The copies so far were read, and the others are as they were.
abbrev pub invariant-loop-index : goal.invariant-loop-index
invariant-loop-index g l = record {
  read : AreTaken (take l.index (map g.I.Inputs.remaining l.initial.copies)) (map (λ copy. copy.items) l.read.items);
  others : AreKeptFrom l.index l.initial.copies l.copies;
}
