use Rattle.std.proofs.Common.{◌≡◌, ◌<◌, ◌≤◌, ℕ, [], map, take, get_or}
use Rattle.std.specs.List.{All}
use Rattle.ffv1_range.specs.Tables.{IsTable, AreScalesSmall, halves_of, scale_after_all}
use Rattle.ffv1_makings.specs.Inner.ReadBack.{ShowsHalf}
use Rattle.ffv1_makings.proofs.sets.has_tables.Given as goal

-- The tables so far are those asked for.
abbrev pub invariant-loop-table : goal.invariant-loop-table
invariant-loop-table l =
    let asked = map (λ runs. runs.items) l.tables in
    record {
      scale : l.scale ≡ scale_after_all 1 (take l.table asked);
      small : l.scale ≤ 65535;
      tables : All IsTable (take l.table asked);
      scales : AreScalesSmall 1 (take l.table asked);
      halves : (k : ℕ) → k < l.table → ShowsHalf l.recording l.set k (get_or (halves_of 1 asked) k []);
    }
