use Rattle.std.proofs.Common.{◌≡◌, ◌++◌, map, take, string_bytes}
use Rattle.std.specs.List.{zip}
use Rattle.ffv1_mend.specs.Improved.{part_value}
use Rattle.ffv1_stretches.specs.Inner.CellSteps.{cell_now}
use Rattle.ffv1_stretches.specs.Lines.{parts_lines}
use Rattle.ffv1_stretches.proofs.lines.push_parts.Given as goal

-- the lines of the parts so far
abbrev pub invariant-loop-index : goal.invariant-loop-index
invariant-loop-index l =
    string_bytes l.text ≡ string_bytes l.initial.text ++ parts_lines 1 (map cell_now l.cells) l.bytes (take l.index (zip l.parts (map part_value l.mends)))
