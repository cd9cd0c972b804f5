use Rattle.ffv1_weave.proofs.Common.{[], map, get_or, IsFoundAmong, Slice}
use Rattle.ffv1_weave.proofs.Choices.{IsAlike}
use Rattle.ffv1_weave.proofs.RepairSteps.{all_inversions}
use Rattle.ffv1_weave.proofs.repairing.repair_distinct.Given as goal

-- The bytes are still those of the first version where all agree, and what was found is what is found among the combinations so far.
abbrev pub invariant-loop-code : goal.invariant-loop-code
invariant-loop-code l = record {
  alike : IsAlike (map (λ version. version.now) l.versions) 0 l.bytes.items (get_or (map (λ version. version.now) l.versions) 0 []);
  found : IsFoundAmong Slice (all_inversions l.tried.parts.items (get_or (map (λ version. version.now) l.versions) 0 []) l.code) l.found;
}
