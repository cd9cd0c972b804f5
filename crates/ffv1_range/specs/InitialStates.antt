-- The initial states of the contexts of a set of quantization tables (RFC 9043, sections 4.2.14 and 4.2.15).
use Rattle.std.specs.Prelude.{ℕ, ◌+◌, ◌%◌, ◌==◌, Bool, true, false, not, List, map, take, length, sum_by, ℤ, Option, Some, None, slice_index, if◌then◌else◌}
use Rattle.std.specs.List.{range_with_len}
use Rattle.ffv1_range.specs.Transitions.{delta_byte}

-- State k of the last of these contexts, each of which has its 32 deltas modulo 256: 128 and the deltas k of all of them, modulo 256.
abbrev pub initial_state : List (List ℕ) → ℕ → ℕ
initial_state contexts k = (128 + sum_by (λ deltas. slice_index deltas k) contexts) % 256

-- the 32 states of the last of these contexts
unfoldable pub context_states : List (List ℕ) → List ℕ
context_states contexts = map (initial_state contexts) (range_with_len 0 32)

-- the states of each of these contexts
unfoldable pub initial_states : List (List ℕ) → List (List ℕ)
initial_states contexts = map (λ j. context_states (take (j + 1) contexts)) (range_with_len 0 (length contexts))

-- Of a set: states_coded, and the states of its contexts where they are coded and of use.
pub record StatesValue : Type 0 where
  pub coded : Bool
  pub initial : Option (List (List ℕ))

-- With coder_type 0 no sample is coded at such states, and they are dropped.
abbrev pub keeps_states : ℕ → Bool
keeps_states coder = not (coder == 0)

-- no states are coded: all are 128
abbrev pub uncoded_states : StatesValue
uncoded_states = record { coded = false; initial = None }

-- states are coded, by deltas that are taken modulo 256
abbrev pub coded_states : Bool → List (List ℕ) → StatesValue
coded_states keeps contexts = record { coded = true; initial = if keeps then Some (initial_states contexts) else None }

-- the same from initial_state_delta as it is coded
abbrev pub states_of : Bool → Option (List (List ℤ)) → StatesValue
states_of keeps None = uncoded_states
states_of keeps (Some contexts) = coded_states keeps (map (λ deltas. map delta_byte deltas) contexts)
