use Rattle.std.proofs.Common.{◌≡◌, drop, map}
use Rattle.ffv1_range.specs.Tables.{scale_after_all}
use Rattle.ffv1_vectors.specs.Inner.Asked.{HasTables}
use Rattle.ffv1_vectors.proofs.asked.has_set.Given as goal

-- The tables so far are those asked for: all are, where the rest are.
abbrev pub invariant-loop-table : goal.invariant-loop-table
invariant-loop-table l =
    record {
      entries :
          HasTables l.setup l.set l.table l.scale (map (λ runs. runs.items) (drop l.table l.tables))
          → HasTables l.setup l.set 0 1 (map (λ runs. runs.items) l.tables);
      scales : scale_after_all l.scale (map (λ runs. runs.items) (drop l.table l.tables)) ≡ scale_after_all 1 (map (λ runs. runs.items) l.tables);
    }
