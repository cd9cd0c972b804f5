use Rattle.std.proofs.Common.{List, Bool, ◌≡◌, ◌+◌, ◌-◌, length}
use Rattle.ffv1_plane.specs.Inner.Progress.{IsContinued, RowStart}
use Rattle.ffv1_plane.specs.Inner.Rows.{IsLeftOfNext}
use Rattle.ffv1_plane.specs.Inner.Readers.{IsSamePlane, HasRead}
use Rattle.ffv1_plane.proofs.plane.PlaneReader.read_row.Given as goal

abbrev pub invariant-loop-self : goal.invariant-loop-self
invariant-loop-self l = record {
  same : IsSamePlane l.fn.self l.self;
  read : (start : RowStart) (whole : List Bool) → HasRead start whole l.fn.self → HasRead start whole l.self;
  continued : IsContinued l.fn.self.lines.samples l.self.lines.samples;
  left : IsLeftOfNext l.self.lines l.left;
  count : length l.self.lines.samples ≡ length l.fn.self.lines.samples + l.self.lines.x;
}

abbrev pub decreases-loop-self : goal.decreases-loop-self
decreases-loop-self l = l.self.lines.width - l.self.lines.x
