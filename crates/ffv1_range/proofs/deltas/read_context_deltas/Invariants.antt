use Rattle.std.proofs.Common.{◌≡◌, ◌-◌, ◌<◌, [], length, take}
use Rattle.ffv1_range.specs.TableForms.{context_deltas}
use Rattle.ffv1_range.specs.declared.fault.SetupFault.TheVariants.{Range}
use Rattle.ffv1_range.proofs.Forms.{Continues, IsAtPlace}
use Rattle.ffv1_range.proofs.deltas.read_context_deltas.Given as goal

abbrev pub invariant-loop-k : goal.invariant-loop-k
invariant-loop-k l =
    record {
      going : Continues Range (context_deltas 32 0 []) l.fn.decoder l.fn.rows (context_deltas (32 - l.k) l.k (take l.k l.deltas)) l.decoder l.rows;
      size : length l.deltas ≡ 32;
      alive : 0 < l.k → IsAtPlace l.decoder;
    }
