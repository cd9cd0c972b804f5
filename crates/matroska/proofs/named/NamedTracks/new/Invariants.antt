use Rattle.std.proofs.Common.{take}
use Rattle.matroska.proofs.NamedSteps.{NamedSoFar}
use Rattle.matroska.proofs.named.NamedTracks.new.Given as goal

-- those so far
abbrev pub invariant-loop-track : goal.invariant-loop-track
invariant-loop-track l = NamedSoFar (take l.track-index l.tracks) l.named.items l.places
