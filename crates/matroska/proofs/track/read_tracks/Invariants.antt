use Rattle.std.proofs.Common.{length}
use Rattle.matroska.proofs.TrackSteps.{TracksSoFar}
use Rattle.matroska.proofs.track.read_tracks.Given as goal

-- the entries so far are those of the tracks, and those of what is left follow them
abbrev pub invariant-loop-entry : goal.invariant-loop-entry
invariant-loop-entry l = TracksSoFar l.content l.left l.tracks.items

abbrev pub decreases-loop-entry : goal.decreases-loop-entry
decreases-loop-entry l = length l.left
