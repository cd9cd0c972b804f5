use Rattle.std.proofs.Common.{◌≡◌, ◌-◌, ◌<◌, []}
use Rattle.std.specs.Prelude.{vec_capacity, vec_len}
use Rattle.ffv1_range.specs.TableForms.{sets_from}
use Rattle.ffv1_range.specs.Views.{set_values}
use Rattle.ffv1_range.specs.declared.fault.SetupFault.TheVariants.{Range}
use Rattle.ffv1_range.proofs.Forms.{Continues, IsAtPlace}
use Rattle.ffv1_range.proofs.tables.read_sets.Given as goal

abbrev pub invariant-loop : goal.invariant-loop
invariant-loop l =
    record {
      going : Continues Range (sets_from l.count []) l.fn.decoder tt (sets_from (l.count - l.counter) (set_values l.sets.items)) l.decoder tt;
      alive : 0 < l.counter → IsAtPlace l.decoder;
      size : vec_len l.sets ≡ l.counter;
      room : vec_capacity l.sets ≡ vec_capacity l.fn.sets;
    }
