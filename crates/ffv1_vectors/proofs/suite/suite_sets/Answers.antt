use Rattle.std.proofs.Common.{◌≡◌, ℕ, List, [], ◌∷◌, ◌++◌, map, take, Vec, Global, add-one, ap, sym, ◌∙◌, arith}
use Rattle.std.proofs.lemmas.List.{map_push}
use Rattle.ffv1_vectors.specs.Suite.{suite_tables}
use Rattle.ffv1_vectors.proofs.SuiteCases.{all_tables, take_got}
use Rattle.ffv1_vectors.proofs.suite.suite_sets.Goals as goal

pub loop-table-preserved : goal.loop-table-preserved
loop-table-preserved c =
    let all : List (List ℕ) = suite_tables c.args.tables in
    let k : ℕ = c.loop-table.table in
    ap (map (λ (runs : Vec ℕ Global). runs.items)) c.in_ok-push.ensures.items
    ∙ map_push (λ (runs : Vec ℕ Global). runs.items) c.loop-table.set.items c.in_ok-from_slice.field-0
    ∙ ap (λ tables. tables ++ c.in_ok-from_slice.field-0.items ∷ []) c.loop-table.invariant
    ∙ ap (λ runs. take k all ++ runs ∷ []) c.in_ok-from_slice.ensures.items
    ∙ sym (take_got all k c.suite_runs.result.now c.suite_runs.ensures) ∙ ap (λ n. take n all) (sym (add-one k))

pub returns-clause-tables : goal.returns-clause-tables
returns-clause-tables c =
    let five : c.loop-table.table ≡ 5 = omega arith in
    let tables : map (λ (runs : Vec ℕ Global). runs.items) c.loop-table.set.items ≡ suite_tables c.args.tables =
    c.loop-table.invariant ∙ ap (λ n. take n (suite_tables c.args.tables)) five ∙ all_tables c.args.tables in
    ap (map (λ (set : Vec (Vec ℕ Global) Global). map (λ (runs : Vec ℕ Global). runs.items) set.items))
    (c.in_ok-push-2.ensures.items ∙ ap (λ sets. sets ++ c.loop-table.set ∷ []) c.new-sets.ensures.items)
    ∙ ap (λ set. set ∷ []) tables
