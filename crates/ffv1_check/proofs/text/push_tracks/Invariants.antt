use Rattle.std.proofs.Common.{◌≡◌, ◌++◌, take, string_bytes}
use Rattle.std.specs.List.{flat_map}
use Rattle.ffv1_check.specs.ReportLines.{track_line}
use Rattle.ffv1_check.proofs.text.push_tracks.Given as goal

-- the lines of the tracks so far
abbrev pub invariant-loop-count : goal.invariant-loop-count
invariant-loop-count l = string_bytes l.text ≡ string_bytes l.initial.text ++ flat_map track_line (take l.count-index l.counts)
