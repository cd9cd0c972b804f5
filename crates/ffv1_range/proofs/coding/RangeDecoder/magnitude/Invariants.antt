use Rattle.std.proofs.Common.{◌+◌, ◌*◌, ◌^◌, ◌≤◌}
use Rattle.ffv1_range.specs.Forms.{same_fault}
use Rattle.ffv1_range.specs.Decoder.{KeepsStates}
use Rattle.ffv1_range.specs.Reading.{low_form}
use Rattle.ffv1_range.proofs.Forms.{Continues, IsAtPlace}
use Rattle.ffv1_range.proofs.coding.RangeDecoder.magnitude.Given as goal

abbrev pub invariant-loop-place : goal.invariant-loop-place
invariant-loop-place l =
    record {
      going : Continues same_fault (low_form l.fn.exponent 1) l.fn.self l.fn.states (low_form l.place l.magnitude) l.self l.states;
      alive : IsAtPlace l.self;
      states : KeepsStates l.fn.self l.fn.states l.states;
      fits : (l.magnitude + 1) * 2 ^ l.place ≤ 2 ^ 32;
    }
