use Rattle.std.proofs.Common.{◌≡◌, ◌+◌, length}
use Rattle.ffv1_rice.specs.States.{IsCodedDepth}
use Rattle.ffv1_plane.specs.Samples.{Coding}
use Rattle.ffv1_plane.specs.Inner.Progress.{AreSkipped}
use Rattle.ffv1_plane.proofs.lines.Lines.skip.Given as goal

abbrev pub invariant-loop-done : goal.invariant-loop-done
invariant-loop-done l = record {
  skipped : (coding : Coding) → IsCodedDepth coding.depth → AreSkipped l.fn.self.width coding l.fn.self.samples l.self.samples l.done;
  depth : l.self.depth ≡ l.fn.self.depth;
  width : l.self.width ≡ l.fn.self.width;
  count : length l.self.samples ≡ length l.fn.self.samples + l.done;
  x : l.self.x ≡ l.fn.self.x + l.done;
}
