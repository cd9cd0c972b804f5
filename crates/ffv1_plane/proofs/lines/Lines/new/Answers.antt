use Rattle.ffv1_plane.proofs.Rows.{first_lines}
use Rattle.ffv1_plane.proofs.lines.Lines.new.Goals as goal

pub invariant_of-result : goal.invariant_of-result
invariant_of-result c =
    rw c.in_ok-rows.ensures.items
    (first_lines c.args.depth c.args.width c.in_ok-line.line.items c.in_ok-above.above.items c.in_ok-far_above.far_above.items c.requires.depth c.requires.some c.requires.width
    (c.in_ok-line.ensures.items_if_clones_equal (λ y e. e)) (c.in_ok-above.ensures.items_if_clones_equal (λ y e. e))
    (c.in_ok-far_above.ensures.items_if_clones_equal (λ y e. e)))
