use Rattle.std.proofs.Common.{◌≡◌, ◌-◌, ◌≤◌, ◌<◌, [], take, length}
use Rattle.ffv1_range.specs.TableForms.{tables_from}
use Rattle.ffv1_range.specs.declared.fault.SetupFault.TheVariants.{Range}
use Rattle.ffv1_range.proofs.Forms.{Continues, IsAtPlace}
use Rattle.ffv1_range.proofs.tables.read_set.Given as goal

abbrev pub invariant-loop-table : goal.invariant-loop-table
invariant-loop-table l =
    record {
      going : Continues Range (tables_from 5 1 []) l.fn.decoder tt (tables_from (5 - l.table) l.scale (take l.table l.halves)) l.decoder tt;
      alive : 0 < l.table → IsAtPlace l.decoder;
      small : l.scale ≤ 65535;
      five : length l.halves ≡ 5;
    }
