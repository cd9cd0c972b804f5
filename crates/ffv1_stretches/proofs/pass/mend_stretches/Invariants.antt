use Rattle.std.proofs.Common.{take, length, map}
use Rattle.ffv1_stretches.specs.Copies.{state_of}
use Rattle.ffv1_devices.specs.Touching.{WritesIfTouched}
use Rattle.ffv1_stretches.proofs.Mending.{IsMended}
use Rattle.ffv1_stretches.proofs.pass.mend_stretches.Given as goal

-- What becomes of the stretches so far was written and printed. Where there were no bytes of it, nothing was touched.
abbrev pub invariant-loop-index : goal.invariant-loop-index
invariant-loop-index g l = record {
  so_far : IsMended (length l.initial.copies) (take l.index l.stretches) (map (λ copy. g.S.Source.log copy.source) l.initial.copies)
      (map (state_of g.S.Source.log) l.copies) (g.O.Sink.log l.initial.out) (g.O.Sink.log l.out) (g.W.Sink.log l.initial.output) (g.W.Sink.log l.output) l.good;
  out_touched : WritesIfTouched g.O.Sink.log l.initial.out l.out;
  output_touched : WritesIfTouched g.W.Sink.log l.initial.output l.output;
}
