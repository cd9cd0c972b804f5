use Rattle.std.proofs.Common.{◌++◌, ◌∷◌, [], ℕ, List, string_bytes, map, take, ap, ◌∙◌, append_assoc}
use Rattle.ffv1_stretches.specs.Inner.CellSteps.{cell_now}
use Rattle.ffv1_stretches.specs.Lines.{mark_of, marks_of}
use Rattle.ffv1_stretches.proofs.LineLemmas.{cells_more}
use Rattle.ffv1_stretches.proofs.lines.push_marks.Goals as goal

pub loop-cell-preserved : goal.loop-cell-preserved
loop-cell-preserved c =
    let so_far : List ℕ = take c.loop-cell.cell-index (marks_of (map cell_now c.args.cells.now) c.args.bytes.now) in
    c.in_ok-push_str.ensures.bytes ∙ ap (λ (bytes : List ℕ). bytes ++ c.mark_of.result.now) c.loop-cell.invariant
    ∙ ap (λ (mark : List ℕ). (string_bytes c.args.text.now ++ take c.loop-cell.cell-index (marks_of (map cell_now c.args.cells.now) c.args.bytes.now)) ++ mark) c.mark_of.ensures
    ∙ append_assoc (string_bytes c.args.text.now) (take c.loop-cell.cell-index (marks_of (map cell_now c.args.cells.now) c.args.bytes.now)) (_ ∷ [])
    ∙ ap (λ (marks : List ℕ). string_bytes c.args.text.now ++ marks) (cells_more (mark_of c.args.bytes.now) c.args.cells.now c.loop-cell.cell-index c.loop-cell-test.true)
