use Rattle.std.proofs.Common.{◌+◌, ◌<◌, ◌∙◌, ap, arith, rules}
use Rattle.std.proofs.lemmas.List.{get_or_read}
use Rattle.ffv1_plane.proofs.Rows.{near_is}
use Rattle.ffv1_plane.proofs.lines.Lines.left.Goals as goal

pub returns : goal.returns
returns c =
    let less : c.self.inside.x < c.self.inside.width = search rules in
    let left = get_or_read c.self.inside.line.items (c.self.inside.x + 1) c.index.result.now (omega arith) c.index.ensures 0 in
    rw (← c.self.view_is)
    (left
    ∙ ap (λ near. near.left) (near_is c.self.inside.depth c.self.inside.width c.self.inside.x c.self.inside.rows.items c.self.inside.line.items c.self.inside.above.items
    c.self.inside.far_above.items c.self.invariant less))
