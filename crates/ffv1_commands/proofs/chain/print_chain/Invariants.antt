use Rattle.std.proofs.Common.{◌≡◌, ◌≤◌, ◌++◌, List, ℕ, length, string_bytes, string_capacity}
use Rattle.std.specs.List.{flat_map}
use Rattle.ffv1_commands.specs.Inner.Lines.{room, PrintsFront}
use Rattle.ffv1_commands.specs.ChainText.{link_line}
use Rattle.ffv1_commands.proofs.chain.print_chain.Given as goal

-- The lines of the links so far were printed, or wait in the text; those of the links still to come are the rest of all lines.
abbrev pub invariant-loop-link : goal.invariant-loop-link
invariant-loop-link g l = record {
  large : room ≤ string_capacity l.text;
  reported : (lines : List ℕ) × (lines ++ flat_map link_line l.chain.left ≡ flat_map link_line l.initial.chain.left)
      × PrintsFront (g.W.Sink.log l.initial.output) (g.W.Sink.log l.output) (string_bytes l.text) lines;
}

abbrev pub decreases-loop-link : goal.decreases-loop-link
decreases-loop-link g l = length l.chain.left
