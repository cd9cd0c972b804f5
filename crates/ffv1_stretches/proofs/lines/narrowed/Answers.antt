use Rattle.std.proofs.Common.{◌++◌, ◌∷◌, [], ℕ, List, Option, take, map, ap, ◌∙◌}
use Rattle.std.proofs.lemmas.List.{map-append}
use Rattle.ffv1_stretches.specs.Inner.CellSteps.{cell_now}
use Rattle.ffv1_stretches.specs.Lines.{cell_between, cells_between}
use Rattle.ffv1_stretches.proofs.LineLemmas.{cells_more}
use Rattle.ffv1_stretches.proofs.lines.narrowed.Goals as goal

pub loop-cell-preserved : goal.loop-cell-preserved
loop-cell-preserved c =
    ap (map cell_now) c.in_ok-push.ensures.items ∙ map-append cell_now c.loop-cell.narrow.items (c.cell_between.result ∷ [])
    ∙ ap (λ front. front ++ cell_now c.cell_between.result ∷ []) c.loop-cell.invariant
    ∙ ap (λ (cell : Option (List ℕ)). take c.loop-cell.cell-index (cells_between (map cell_now c.args.cells.now) c.args.start c.args.end) ++ cell ∷ []) c.cell_between.ensures
    ∙ cells_more (cell_between c.args.start c.args.end) c.args.cells.now c.loop-cell.cell-index c.loop-cell-test.true
