use Rattle.std.proofs.Common.{take, map}
use Rattle.std.specs.String.{string_bytes}
use Rattle.ffv1_commands.specs.InTurn.{AreKeptFrom}
use Rattle.ffv1_commands.specs.TakeText.{TakesEach}
use Rattle.ffv1_commands.proofs.take.take_inputs.Given as goal

-- The copies so far were taken, and the others are as they were.
abbrev pub invariant-loop-index : goal.invariant-loop-index
invariant-loop-index g l = record {
  taken : TakesEach l.recordings (take l.index (map g.I.Inputs.remaining l.initial.copies)) l.initial.holding.reel l.holding (string_bytes l.lines) l.in_order;
  others : AreKeptFrom l.index l.initial.copies l.copies;
}
