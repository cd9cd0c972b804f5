use Rattle.std.proofs.Common.{◌≡◌, ◌<◌, ◌-◌, [], length, take}
use Rattle.ffv1_range.specs.Forms.{same_fault}
use Rattle.ffv1_range.specs.TableForms.{fresh_row}
use Rattle.ffv1_range.specs.HeaderForms.{symbols_onto}
use Rattle.ffv1_range.proofs.Forms.{Continues, IsAtPlace}
use Rattle.ffv1_range.proofs.head.read_fields.Given as goal

-- The fields so far were read, and what is left to read is the rest of them.
abbrev pub invariant-loop-index : goal.invariant-loop-index
invariant-loop-index l =
    record {
      going : Continues same_fault (symbols_onto l.count []) l.fn.decoder fresh_row (symbols_onto (l.count - l.index) (take l.index l.fields)) l.decoder l.states;
      room : length l.fields ≡ 10;
      alive : 0 < l.index → IsAtPlace l.decoder;
    }
