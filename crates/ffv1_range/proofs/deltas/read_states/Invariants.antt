use Rattle.std.proofs.Common.{◌≡◌, ◌-◌, ℕ, List, [], length}
use Rattle.std.specs.Prelude.{vec_capacity}
use Rattle.ffv1_range.specs.InitialStates.{context_states, initial_states}
use Rattle.ffv1_range.specs.TableForms.{contexts_deltas}
use Rattle.ffv1_range.specs.declared.fault.SetupFault.TheVariants.{Range}
use Rattle.ffv1_range.proofs.Forms.{Continues, IsAtPlace}
use Rattle.ffv1_range.proofs.deltas.read_states.Given as goal

-- Some deltas were read, and the states are those that they give.
abbrev pub invariant-loop : goal.invariant-loop
invariant-loop l =
    (deltas : List (List ℕ))
    × Continues Range (contexts_deltas l.contexts []) l.fn.decoder l.fn.rows (contexts_deltas (l.contexts - l.counter) deltas) l.decoder l.rows
    × IsAtPlace l.decoder
    × (length deltas ≡ l.counter)
    × (l.last ≡ context_states deltas)
    × (l.states.items ≡ initial_states deltas)
    × (vec_capacity l.states ≡ vec_capacity l.fn.states)
