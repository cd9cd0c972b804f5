-- Rows of states, and what calls that read initial states return.
use Rattle.std.specs.Prelude.{◌≡◌, ℕ, ◌+◌, ◌%◌, ◌<◌, Bool, true, List, [], map, length, slice_index, slice_index_or, Result, Ok, Err}
use Rattle.std.specs.List.{range_with_len}
use Rattle.ffv1_range.specs.Forms.{ReadsForm, form_at}
use Rattle.ffv1_range.specs.TableForms.{contexts_deltas}
use Rattle.ffv1_range.specs.declared.fault.SetupFault.{SetupFault}
use Rattle.ffv1_range.specs.declared.fault.SetupFault.TheVariants.{Range}
use Rattle.ffv1_range.specs.Decoder.{Reader}
use Rattle.ffv1_range.specs.Decoder.{AreStates}

-- rows of states, each in 8..=248
abbrev pub AreStateRows : List (List ℕ) → Type 0
AreStateRows rows = (k : ℕ) → k < length rows → AreStates (slice_index_or rows k [])

-- the states of a context, from those of the context before it
abbrev pub state_with : List ℕ → List ℕ → ℕ → ℕ
state_with before deltas k = (slice_index before k + slice_index deltas k) % 256

unfoldable pub states_with : List ℕ → List ℕ → List ℕ
states_with before deltas = map (state_with before deltas) (range_with_len 0 32)

-- A call read the deltas of contexts, and left what is made of them.
abbrev pub ReadsDeltas : ℕ → (List (List ℕ) → Type 0) → Reader → List (List ℕ) → Result (Unit {0}) SetupFault → Reader → List (List ℕ) → Type 0
ReadsDeltas contexts Left r rows (Ok done) s after =
    (deltas : List (List ℕ)) × ReadsForm Range (contexts_deltas contexts []) r rows (Ok deltas) s after × Left deltas
ReadsDeltas contexts Left r rows (Err e) s after = form_at Range (contexts_deltas contexts []) r rows ≡ Err e

-- memory for the states of each set
abbrev pub each_set : ℕ → Bool
each_set set = true
