use Rattle.ffv1_weave.proofs.Common.{ℕ, List, [], ◌++◌, map, get_or, IsFoundAmong, chosen_below}
use Rattle.ffv1_weave.proofs.Choices.{IsAlike}
use Rattle.ffv1_weave.proofs.trying.with_combinations.Given as goal

-- The bytes are still those of the first version where all agree, and what is found takes in the combinations of the numbers so far.
abbrev pub invariant-loop-code : goal.invariant-loop-code
invariant-loop-code l = record {
  alike : IsAlike (map (λ version. version.now) l.versions) 0 l.bytes.items (get_or (map (λ version. version.now) l.versions) 0 []);
  found : (others : List (List ℕ)) → IsFoundAmong l.check others l.initial.found
      → IsFoundAmong l.check (chosen_below l.tried.parts.items (get_or (map (λ version. version.now) l.versions) 0 []) l.code ++ others) l.found;
}
