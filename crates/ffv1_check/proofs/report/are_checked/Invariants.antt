use Rattle.std.proofs.Common.{ℕ, ◌≡◌, ◌<◌}
use Rattle.std.specs.Prelude.{slice_get, Some}
use Rattle.matroska.specs.declared.track.Track.{Track}
use Rattle.ffv1_check.specs.Inner.Stands.{IsChecked}
use Rattle.ffv1_check.proofs.report.are_checked.Given as goal

-- those so far are
abbrev pub invariant-loop-index : goal.invariant-loop-index
invariant-loop-index l = (k : ℕ) → k < l.index → (track : Track) → slice_get l.tracks k ≡ Some track → IsChecked track (slice_get l.counts k)
