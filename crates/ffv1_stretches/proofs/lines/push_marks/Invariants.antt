use Rattle.std.proofs.Common.{◌≡◌, ◌++◌, map, take, string_bytes}
use Rattle.ffv1_stretches.specs.Inner.CellSteps.{cell_now}
use Rattle.ffv1_stretches.specs.Lines.{marks_of}
use Rattle.ffv1_stretches.proofs.lines.push_marks.Given as goal

-- the marks of the copies so far
abbrev pub invariant-loop-cell : goal.invariant-loop-cell
invariant-loop-cell l = string_bytes l.text ≡ string_bytes l.initial.text ++ take l.cell-index (marks_of (map cell_now l.cells) l.bytes)
