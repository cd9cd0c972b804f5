use Rattle.std.proofs.Common.{◌+◌, ◌≤◌, refl, sym, ap, subst, length, arith, ◌∙◌}
use Rattle.ffv1_plane.specs.Inner.Rows.{RowsRead}
use Rattle.ffv1_plane.proofs.Copies.{row_copied, cells_alike}
use Rattle.ffv1_plane.proofs.Rows.{count_is}
use Rattle.ffv1_plane.proofs.lines.Lines.copy_above.Goals as goal

pub copy_from_slice-requires : goal.copy_from_slice-requires
copy_from_slice-requires c =
    cells_alike _ _ _ _ (ap length c.deref_mut.ensures.value ∙ c.self.invariant.line_long
    ∙ sym (ap length c.deref.ensures.value ∙ c.self.invariant.above_long))

pub invariant_of-self : goal.invariant_of-self
invariant_of-self c =
    let inside : c.self.inside.x + c.args.count ≤ c.self.inside.width = subst (λ (r : RowsRead). r.x + c.args.count ≤ r.width) (sym c.self.view_is) c.requires.count in
    (row_copied c.self.inside.depth c.self.inside.width c.self.inside.x c.args.count c.self.inside.rows.items c.self.inside.far_above.items c.self.inside.line
    c.self.inside.above.items c.deref.result.now c.deref_mut.result.now c.copy_from_slice.new.self
    c.self.invariant c.requires.some inside _ c.self.view_is c.requires.same c.deref_mut.ensures.value c.deref.ensures.value c.copy_from_slice.ensures.after).lines

pub returns : goal.returns
returns c =
    let inside : c.self.inside.x + c.args.count ≤ c.self.inside.width = subst (λ (r : RowsRead). r.x + c.args.count ≤ r.width) (sym c.self.view_is) c.requires.count in
    let row = row_copied c.self.inside.depth c.self.inside.width c.self.inside.x c.args.count c.self.inside.rows.items c.self.inside.far_above.items c.self.inside.line
    c.self.inside.above.items c.deref.result.now c.deref_mut.result.now c.copy_from_slice.new.self
    c.self.invariant c.requires.some inside _ c.self.view_is c.requires.same c.deref_mut.ensures.value c.deref.ensures.value c.copy_from_slice.ensures.after in
    let before = count_is c.self.inside.depth c.self.inside.width c.self.inside.x c.self.inside.rows.items c.self.inside.line.items c.self.inside.above.items
    c.self.inside.far_above.items c.self.invariant in
    rw (← c.self.view_is)
    (record {
      depth = refl;
      width = refl;
      x = refl;
      count = omega (arith, before, count_is _ _ _ _ _ _ _ row.lines);
      small = row.lines.small;
      skipped = row.skipped;
    })
