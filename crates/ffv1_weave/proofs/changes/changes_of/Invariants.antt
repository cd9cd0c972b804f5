use Rattle.ffv1_weave.proofs.Common.{◌≡◌, take, length, changes_of}
use Rattle.ffv1_weave.proofs.changes.changes_of.Given as goal

-- the changes of the choices so far
abbrev pub invariant-loop-choice : goal.invariant-loop-choice
invariant-loop-choice l = record {
  same_length : length l.scratch ≡ length l.first;
  so_far : l.changes.items ≡ take l.choice-index (changes_of l.check l.first l.part);
}
