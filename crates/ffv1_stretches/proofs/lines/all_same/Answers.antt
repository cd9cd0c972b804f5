use Rattle.std.proofs.Common.{◌<◌, None, map, length, sym, ap, ◌∙◌, arith}
use Rattle.std.proofs.lemmas.List.{length-map}
use Rattle.ffv1_stretches.specs.Inner.CellSteps.{cell_now}
use Rattle.ffv1_stretches.specs.Lines.{is_same}
use Rattle.ffv1_stretches.proofs.CellLemmas.{cell_at}
use Rattle.ffv1_stretches.proofs.LineLemmas.{list_all_more, list_all_not}
use Rattle.ffv1_stretches.proofs.lines.all_same.Goals as goal

pub returns-then-not-is_same : goal.returns-then-not-is_same
returns-then-not-is_same c =
    let i = c.loop-cell.cell-index in
    let few : i < length (map cell_now c.args.cells.now) = omega (arith, length-map c.args.cells.now cell_now, c.loop-cell-test.true) in
    sym (list_all_not (is_same c.args.bytes.now) (map cell_now c.args.cells.now) i None few
    (ap (is_same c.args.bytes.now) (cell_at c.args.cells.now i None c.loop-cell-test.true) ∙ sym c.is_same.ensures ∙ c.if-not-is_same.true))

pub loop-cell-preserved : goal.loop-cell-preserved
loop-cell-preserved c =
    let i = c.loop-cell.cell-index in
    let few : i < length (map cell_now c.args.cells.now) = omega (arith, length-map c.args.cells.now cell_now, c.loop-cell-test.true) in
    list_all_more (is_same c.args.bytes.now) (map cell_now c.args.cells.now) i None few c.loop-cell.invariant
    (ap (is_same c.args.bytes.now) (cell_at c.args.cells.now i None c.loop-cell-test.true) ∙ sym c.is_same.ensures ∙ c.if-not-is_same.false)
