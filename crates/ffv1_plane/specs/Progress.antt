-- The adaptive states that earlier values leave.
use Rattle.std.specs.Prelude.{◌≡◌, ℕ, ◌<◌, List, length, get_or, ℤ}
use Rattle.ffv1_rice.specs.States.{ContextState, start_state}
use Rattle.ffv1_plane.specs.Spelling.{state_after}

-- the states are what earlier values of n bits have left
abbrev pub AreStatesAfter : ℕ → (ℕ → List ℤ) → List ContextState → Type 0
AreStatesAfter n earlier states = (context : ℕ) → context < length states → get_or states context start_state ≡ state_after n (earlier context)
