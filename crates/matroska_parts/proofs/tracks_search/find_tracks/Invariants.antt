use Rattle.std.proofs.Common.{◌-◌, ◌^◌}
use Rattle.matroska_parts.proofs.PlacedSteps.{NoTracksIn}
use Rattle.matroska_parts.proofs.tracks_search.find_tracks.Given as goal

abbrev pub invariant-loop-intake : goal.invariant-loop-intake
invariant-loop-intake g l = NoTracksIn (g.S.Source.log l.fn.source) l.intake (g.S.Source.log l.source) l.place

abbrev pub decreases-loop-intake : goal.decreases-loop-intake
decreases-loop-intake g l = 2 ^ 63 - l.place
