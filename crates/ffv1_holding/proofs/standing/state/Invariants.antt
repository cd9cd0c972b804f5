use Rattle.std.proofs.Common.{◌≡◌, ◌==◌, take}
use Rattle.std.specs.List.{filter}
use Rattle.ffv1_holding.specs.Sets as set
use Rattle.ffv1_holding.specs.TileState.{status_of, state_of_best}
use Rattle.ffv1_holding.specs.TileStates.{state_shown}
use Rattle.ffv1_holding.proofs.standing.state.Given as goal

-- how the slices of the least status, of those passed so far, stand
abbrev pub invariant-loop-place : goal.invariant-loop-place
invariant-loop-place l = state_shown l.found ≡ state_of_best (filter (λ b. status_of b == l.least) (take l.place (set.items l.slices)))
