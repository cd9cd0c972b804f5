use Rattle.std.proofs.Common.{◌≡◌, map, take}
use Rattle.ffv1_vectors.specs.Suite.{suite_tables}
use Rattle.ffv1_vectors.proofs.suite.suite_sets.Given as goal

-- The tables so far are those of the case.
abbrev pub invariant-loop-table : goal.invariant-loop-table
invariant-loop-table l = map (λ runs. runs.items) l.set.items ≡ take l.table (suite_tables l.tables)
