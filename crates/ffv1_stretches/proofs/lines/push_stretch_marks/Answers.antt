use Rattle.std.proofs.Common.{◌≡◌, ℕ, List, sym, subst, true}
use Rattle.std.specs.Prelude.{All}
use Rattle.ffv1_stretches.specs.Inner.CellSteps.{cell_now}
use Rattle.ffv1_stretches.specs.Lines.{is_same}
use Rattle.ffv1_stretches.proofs.KnownMarks.{known_same}
use Rattle.ffv1_stretches.proofs.lines.push_stretch_marks.Goals as goal

pub push_marks-requires : goal.push_marks-requires
push_marks-requires c = λ known.
    subst (λ (bytes : List ℕ). All (λ cell. is_same bytes (cell_now cell) ≡ true) c.args.cells.now) (sym c.bytes.ensures)
    (known_same c.args.cells.now c.args.stretch.now c.args.mended.now c.requires (c.is_whole_in_all-known.ensures known))
