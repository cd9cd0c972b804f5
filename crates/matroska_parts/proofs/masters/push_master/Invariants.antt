use Rattle.std.proofs.Common.{◌-◌, length}
use Rattle.matroska_parts.specs.MasterParts.{IsMasterChild}
use Rattle.matroska_parts.specs.Inner.Added.{AddsSoFar}
use Rattle.matroska_parts.proofs.masters.push_master.Given as goal

-- those of the children so far were added
abbrev pub invariant-loop-child : goal.invariant-loop-child
invariant-loop-child l =
    AddsSoFar (IsMasterChild l.tracks.named.tracks.items l.is_vouched) l.ids l.place l.content l.at l.fn.parts.items l.parts.items

abbrev pub decreases-loop-child : goal.decreases-loop-child
decreases-loop-child l = length l.content - l.at
