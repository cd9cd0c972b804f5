use Rattle.std.proofs.Common.{◌-◌, length}
use Rattle.ebml.specs.Masters.{block_group_ids}
use Rattle.matroska_parts.specs.MasterParts.{IsGroupChild}
use Rattle.matroska_parts.specs.Inner.Added.{AddsSoFar}
use Rattle.matroska_parts.proofs.masters.push_group.Given as goal

-- those of the children so far were added
abbrev pub invariant-loop-child : goal.invariant-loop-child
invariant-loop-child l =
    AddsSoFar (IsGroupChild l.tracks.named.tracks.items l.is_vouched) block_group_ids l.place l.content l.at l.fn.parts.items l.parts.items

abbrev pub decreases-loop-child : goal.decreases-loop-child
decreases-loop-child l = length l.content - l.at
