use Rattle.std.proofs.Common.{ℕ, ◌<◌}
use Rattle.ffv1_layout.specs.Layout.{headers_of}
use Rattle.ffv1_player.specs.Frames.{HasEqual}
use Rattle.ffv1_player.specs.Players.{left_values}
use Rattle.ffv1_player.proofs.before.first_stop.Given as goal

-- the slices so far have an equal
abbrev pub invariant-loop-place : goal.invariant-loop-place
invariant-loop-place l = (earlier : ℕ) → earlier < l.place → HasEqual l.recording (headers_of l.placed) (left_values l.before) earlier
