use Rattle.std.proofs.Common.{◌-◌, length}
use Rattle.ebml.specs.Inner.Passed.{Passed}
use Rattle.ebml.proofs.items.count_items.Given as goal

abbrev pub invariant-loop-place : goal.invariant-loop-place
invariant-loop-place l = Passed l.file l.place l.count

abbrev pub decreases-loop-place : goal.decreases-loop-place
decreases-loop-place l = length l.file - l.place
