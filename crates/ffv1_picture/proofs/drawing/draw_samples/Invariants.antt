use Rattle.ffv1_picture.specs.Drawn.{Draws}
use Rattle.ffv1_picture.proofs.Drawings.{first_rows}
use Rattle.ffv1_picture.proofs.drawing.draw_samples.Given as goal

-- the rows so far are drawn
abbrev pub invariant-loop-row : goal.invariant-loop-row
invariant-loop-row g l = Draws l.width (first_rows l.fn.rect l.row) l.samples l.initial.plane l.plane
