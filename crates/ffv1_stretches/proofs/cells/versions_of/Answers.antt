use Rattle.std.proofs.Common.{◌++◌, ◌∷◌, [], List, ℕ, Bor, Some, None, Vec, Global, map, ap, sym, ◌∙◌, append-nil, take, take_all, arith}
use Rattle.std.proofs.lemmas.List.{map-append, length-map}
use Rattle.ffv1_stretches.specs.Cells.{versions_in}
use Rattle.ffv1_stretches.specs.Inner.CellSteps.{cell_now}
use Rattle.ffv1_stretches.proofs.WordLemmas.{now_of}
use Rattle.ffv1_stretches.proofs.CellLemmas.{versions_more}
use Rattle.ffv1_stretches.proofs.cells.versions_of.Goals as goal
use Rattle.ffv1_stretches.proofs.cells.versions_of.Goals.{in-Some+in_ok-push, in_default}

abbrev values : Vec (Bor (List ℕ)) Global → List (List ℕ)
values versions = map now_of versions.items

pub loop-cell-preserved : goal.loop-cell-preserved
loop-cell-preserved c =
    elim c.match-cell.branch [
      | in-Some+in_ok-push w ↦
          ap values w.versions-is ∙ ap (map now_of) w.in_ok-push.ensures.items ∙ map-append now_of c.loop-cell.versions.items (w.in-Some.version ∷ [])
          ∙ ap (λ front. front ++ w.in-Some.version.now ∷ []) c.loop-cell.invariant
          ∙ sym (versions_more c.args.cells.now c.loop-cell.cell-index (Some w.in-Some.version) None c.loop-cell-test.true w.in-Some.is)
      | in_default w ↦
          ap values w.versions-is ∙ c.loop-cell.invariant ∙ sym (append-nil (versions_in (take c.loop-cell.cell-index (map cell_now c.args.cells.now))))
          ∙ sym (versions_more c.args.cells.now c.loop-cell.cell-index None None c.loop-cell-test.true w.in_default.is)
    ]

pub returns : goal.returns
returns c = c.loop-cell.invariant ∙ ap versions_in (take_all c.loop-cell.cell-index (map cell_now c.args.cells.now)
    (omega (arith, length-map c.args.cells.now cell_now, c.loop-cell-test.false)))
