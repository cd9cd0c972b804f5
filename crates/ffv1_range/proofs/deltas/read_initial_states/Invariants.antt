use Rattle.std.proofs.Common.{◌≡◌, ◌<◌, ℕ, Bool, true, [], length, drop, take}
use Rattle.ffv1_range.specs.TableForms.{fresh_rows, sets_states}
use Rattle.ffv1_range.specs.Views.{set_values, states_values}
use Rattle.ffv1_range.specs.Inner.Views.{contexts_of}
use Rattle.ffv1_range.specs.declared.fault.SetupFault.TheVariants.{Range}
use Rattle.ffv1_range.proofs.Forms.{Continues, IsAtPlace}
use Rattle.ffv1_range.proofs.deltas.read_initial_states.Given as goal

-- Where memory is granted for the sets so far, what is left to read is the states of the others.
abbrev pub invariant-loop-index : goal.invariant-loop-index
invariant-loop-index l =
    record {
      going : (granted : ℕ → Bool) → ((set : ℕ) → set < l.index → granted set ≡ true)
          → Continues Range (sets_states granted l.keeps (contexts_of l.fn.sets) []) l.fn.decoder (l.fn.record_row, fresh_rows)
          (sets_states granted l.keeps (contexts_of (drop l.index l.fn.sets)) (states_values (take l.index l.sets))) l.decoder (l.record_row, l.rows);
      alive : IsAtPlace l.decoder;
      same : set_values l.sets ≡ set_values l.fn.sets;
      size : length l.sets ≡ length l.fn.sets;
    }
