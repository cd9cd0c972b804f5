use Rattle.ffv1_weave.proofs.Common.{◌≡◌, map, take, length, changes_of}
use Rattle.ffv1_weave.proofs.changes.tables_of.Given as goal

-- the changes of the parts so far
abbrev pub invariant-loop-part : goal.invariant-loop-part
invariant-loop-part l = record {
  same_length : length l.scratch.items ≡ length l.first;
  so_far : map (λ changes. changes.items) l.tables.items ≡ map (changes_of l.check l.first) (take l.part-index l.parts);
}
