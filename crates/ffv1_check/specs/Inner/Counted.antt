-- Blocks that are counted as checked after others.
use Rattle.std.specs.Prelude.{ℕ, ◌+◌, ◌≡◌, ◌==◌, ◌<◌, List, length, get_or, count_by}
use Rattle.ffv1_check.specs.declared.track_states.TrackState.{TrackState}
use Rattle.ffv1_check.specs.Inner.Stands.{no_state}

-- so many blocks more are checked
abbrev pub checked_more : TrackState → ℕ → TrackState
checked_more state n = record { blocks = state.blocks; checked = state.checked + n; last = state.last }

-- how many of these blocks are of a track
abbrev pub times_in : ℕ → List ℕ → ℕ
times_in index blocks = count_by (λ block. block == index) blocks

-- Of each track those blocks more are checked that are of it.
pub record AreVouched (blocks : List ℕ) (old new : List TrackState) : Type 0 where
  pub as_many : length new ≡ length old
  pub each : (index : ℕ) → index < length old → get_or new index no_state ≡ checked_more (get_or old index no_state) (times_in index blocks)
