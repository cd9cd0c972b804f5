use Rattle.std.proofs.Common.{◌≡◌, ◌++◌, map, take, string_bytes}
use Rattle.std.specs.List.{flat_map}
use Rattle.ffv1_mend.specs.Improved.{part_value}
use Rattle.ffv1_stretches.specs.Inner.CellSteps.{cell_now}
use Rattle.ffv1_stretches.specs.Lines.{frame_lines}
use Rattle.ffv1_stretches.proofs.lines.push_frames.Given as goal

-- the lines of the frames so far
abbrev pub invariant-loop-mend : goal.invariant-loop-mend
invariant-loop-mend l =
    string_bytes l.text
    ≡ string_bytes l.initial.text ++ flat_map (frame_lines (map cell_now l.cells) l.bytes) (take l.mend-index (map part_value l.mends))
