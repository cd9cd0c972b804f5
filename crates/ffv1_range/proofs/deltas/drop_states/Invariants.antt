use Rattle.std.proofs.Common.{◌-◌, ℕ, List, []}
use Rattle.ffv1_range.specs.TableForms.{contexts_deltas}
use Rattle.ffv1_range.specs.declared.fault.SetupFault.TheVariants.{Range}
use Rattle.ffv1_range.proofs.Forms.{Continues, IsAtPlace}
use Rattle.ffv1_range.proofs.deltas.drop_states.Given as goal

-- Some deltas were read, and what is left to read is the rest of the contexts.
abbrev pub invariant-loop : goal.invariant-loop
invariant-loop l =
    (deltas : List (List ℕ))
    × Continues Range (contexts_deltas l.contexts []) l.fn.decoder l.fn.rows (contexts_deltas (l.contexts - l.counter) deltas) l.decoder l.rows
    × IsAtPlace l.decoder
