use Rattle.std.proofs.Common.{◌-◌, ◌<◌}
use Rattle.ffv1_range.specs.Forms.{same_fault}
use Rattle.ffv1_range.specs.Decoder.{KeepsStates}
use Rattle.ffv1_range.specs.Reading.{exponent_form}
use Rattle.ffv1_range.proofs.Forms.{Continues, IsAtPlace}
use Rattle.ffv1_range.proofs.coding.RangeDecoder.exponent.Given as goal

abbrev pub invariant-loop-exponent : goal.invariant-loop-exponent
invariant-loop-exponent l =
    record {
      going : Continues same_fault (exponent_form l.fn.limit 0) l.fn.self l.fn.states (exponent_form (l.fn.limit - l.exponent) l.exponent) l.self l.states;
      alive : 0 < l.exponent → IsAtPlace l.self;
      states : KeepsStates l.fn.self l.fn.states l.states;
    }
