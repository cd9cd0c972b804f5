use Rattle.ffv1_plane.proofs.Rows.{column_is}
use Rattle.ffv1_plane.proofs.lines.Lines.column.Goals as goal

pub returns-clause-place : goal.returns-clause-place
returns-clause-place c =
    rw (← c.self.view_is) (column_is c.self.inside.depth c.self.inside.width c.self.inside.x c.self.inside.rows.items c.self.inside.line.items c.self.inside.above.items
    c.self.inside.far_above.items c.self.invariant)
