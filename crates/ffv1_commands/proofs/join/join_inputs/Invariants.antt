use Rattle.std.proofs.Common.{take, map}
use Rattle.std.specs.String.{string_bytes}
use Rattle.ffv1_commands.specs.InTurn.{AreKeptFrom}
use Rattle.ffv1_commands.specs.JoinText.{JoinsAll}
use Rattle.ffv1_commands.proofs.join.join_inputs.Given as goal

-- The files so far were joined, and the others are as they were.
abbrev pub invariant-loop-place : goal.invariant-loop-place
invariant-loop-place g l = record {
  joined : JoinsAll l.recordings (take l.place (map g.I.Inputs.remaining l.initial.others)) (g.F.Source.log l.fn.first) (g.F.Source.log l.first) l.whole
      (string_bytes l.lines);
  others : AreKeptFrom l.place l.initial.others l.others;
}
