use Rattle.std.proofs.Common.{◌≡◌, ◌+◌, ◌<◌, take, vec_len}
use Rattle.ffv1_scan.specs.Ranges.{ranges_end}
use Rattle.ffv1_scan.proofs.ScanSteps.{IsScanned}
use Rattle.ffv1_scan.proofs.scanning.scan.Given as goal

-- The ranges so far were judged, and their lines written.
abbrev pub invariant-loop-index : goal.invariant-loop-index
invariant-loop-index g l = record {
  room : 0 < vec_len l.room;
  last : l.last.place + l.last.size ≡ ranges_end 0 (take l.index l.ranges);
  scan : IsScanned (take l.index l.ranges) l.undamaged (g.S.Source.log l.fn.file) (g.S.Source.log l.file) (g.W.Sink.log l.initial.output) (g.W.Sink.log l.output);
}
