use Rattle.std.proofs.Common.{◌≡◌, ◌≤◌, ◌-◌, ◌<◌, [], take, length}
use Rattle.std.specs.Prelude.{sum}
use Rattle.ffv1_range.specs.TableForms.{fresh_row, runs_from}
use Rattle.ffv1_range.specs.declared.fault.SetupFault.TheVariants.{Range}
use Rattle.ffv1_range.proofs.Forms.{Continues, IsAtPlace}
use Rattle.ffv1_range.proofs.tables.read_runs.Given as goal

abbrev pub invariant-loop-filled : goal.invariant-loop-filled
invariant-loop-filled l =
    record {
      going : Continues Range (runs_from 128 0 []) l.fn.decoder fresh_row (runs_from (128 - l.count) l.filled (take l.count l.lengths)) l.decoder l.states;
      alive : 0 < l.filled → IsAtPlace l.decoder;
      runs : l.count ≤ l.filled;
      whole : l.filled ≤ 128;
      room : length l.lengths ≡ 128;
      sum : sum (take l.count l.lengths) ≡ l.filled;
    }

abbrev pub decreases-loop-filled : goal.decreases-loop-filled
decreases-loop-filled l = 128 - l.filled
