use Rattle.std.proofs.Common.{take}
use Rattle.matroska_parts.specs.Facts.{EachHasFacts}
use Rattle.matroska_parts.proofs.facts.facts_of.Given as goal

abbrev pub invariant-loop-track : goal.invariant-loop-track
invariant-loop-track l = EachHasFacts (take l.track-index l.tracks) l.facts.items
