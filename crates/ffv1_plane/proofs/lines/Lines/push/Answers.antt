use Rattle.std.proofs.Common.{◌<◌, ◌+◌, ap, sym, subst, arith, ◌^◌}
use Rattle.ffv1_plane.specs.Inner.Rows.{RowsRead}
use Rattle.ffv1_plane.proofs.Rows.{pushed, push_is, push_left}
use Rattle.ffv1_plane.proofs.lines.Lines.push.Goals as goal

pub overflow_add-x : goal.overflow_add-x
overflow_add-x c = omega (arith, c.self.invariant.within, c.self.invariant.wide)

pub index_mut-requires : goal.index_mut-requires
index_mut-requires c =
    let less : c.self.inside.x < c.self.inside.width = subst (λ (r : RowsRead). r.x < r.width) (sym c.self.view_is) c.requires.inside in
    omega (arith, less, c.self.inside.line.ok.0, c.self.invariant.line_long)

pub overflow_add-self : goal.overflow_add-self
overflow_add-self c = omega (arith, c.self.invariant.within, c.self.invariant.wide)

pub invariant_of-self : goal.invariant_of-self
invariant_of-self c =
    let less : c.self.inside.x < c.self.inside.width = subst (λ (r : RowsRead). r.x < r.width) (sym c.self.view_is) c.requires.inside in
    pushed c.self.inside.depth c.self.inside.width c.self.inside.x c.self.inside.rows.items c.self.inside.line.items c.self.inside.above.items c.self.inside.far_above.items
    c.args.sample c.self.invariant less (subst (λ (r : RowsRead). c.args.sample < 2 ^ r.depth) (sym c.self.view_is) c.requires.small)

pub returns : goal.returns
returns c =
    let less : c.self.inside.x < c.self.inside.width = subst (λ (r : RowsRead). r.x < r.width) (sym c.self.view_is) c.requires.inside in
    rw (← c.self.view_is)
    (record {
      value = ap {B = RowsRead} (λ s. record { depth = c.self.inside.depth; width = c.self.inside.width; x = c.self.inside.x + 1; samples = s })
          (push_is c.self.inside.depth c.self.inside.width c.self.inside.x c.self.inside.rows.items c.self.inside.line.items c.self.inside.above.items
          c.self.inside.far_above.items c.args.sample c.self.invariant less);
      left =
          push_left c.self.inside.depth c.self.inside.width c.self.inside.x c.self.inside.rows.items c.self.inside.line.items c.self.inside.above.items
          c.self.inside.far_above.items c.args.sample c.self.invariant less (subst (λ (r : RowsRead). c.args.sample < 2 ^ r.depth) (sym c.self.view_is) c.requires.small);
    })
