use Rattle.std.proofs.Common.{◌≡◌, ◌<◌, [], sym, arith, ap, refl, ◌∙◌, subst, slice_index, ◌^◌}
use Rattle.std.proofs.lemmas.List.{append-nil}
use Rattle.std.proofs.lemmas.Result.{err_from_is_err_and}
use Rattle.ffv1_range.specs.Setup.{set_contexts}
use Rattle.ffv1_plane.specs.Inner.Readers.{coding_of}
use Rattle.ffv1_plane.proofs.Readers.{same_plane, same_planes, row_halted, same_read, same_halted, continued_on}
use Rattle.ffv1_plane.proofs.plane.PlaneReader.read_row.Goals as goal

pub loop-self-init : goal.loop-self-init
loop-self-init c = record {
  same = same_plane c.args.self.now;
  read = λ start whole so_far. so_far;
  continued = ([], sym (append-nil c.args.self.now.lines.samples));
  left = λ inside. c.left-left.ensures;
  count = omega (arith, c.requires.start);
}

pub read_next-requires : goal.read_next-requires
read_next-requires c =
    let same = c.loop-self.invariant.same in
    let inside : c.loop-self.self.lines.x < c.loop-self.self.lines.width =
    omega (arith, c.loop-self-test.true, c.column.ensures.value, c.width-width.ensures.value, same.width) in
    record {
      states = same.states ∙ c.requires.states ∙ ap (λ t. set_contexts t.setup t.set) (sym same.tables);
      depth = c.requires.depth ∙ sym same.depth;
      inside = inside;
      left = c.loop-self.invariant.left inside;
    }

pub loop-self-smaller : goal.loop-self-smaller
loop-self-smaller c =
    omega (
      arith,
      c.loop-self-test.true,
      c.column.ensures.value,
      c.width-width.ensures.value,
      c.loop-self.invariant.same.width,
      c.in_ok-left.ensures.same.width,
      c.in_ok-left.ensures.more,
    )

pub loop-self-preserved : goal.loop-self-preserved
loop-self-preserved c = record {
  same = same_planes _ _ _ c.loop-self.invariant.same c.in_ok-left.ensures.same;
  read = λ start whole so_far. c.in_ok-left.ensures.read start whole (c.loop-self.invariant.read start whole so_far);
  continued = continued_on _ _ _ c.loop-self.invariant.continued c.in_ok-left.ensures.continued;
  left = c.in_ok-left.ensures.left;
  count = omega (arith, c.in_ok-left.ensures.count, c.loop-self.invariant.count);
}

pub returns-in_err-left : goal.returns-in_err-left
returns-in_err-left c =
    let p = err_from_is_err_and c.from_residual.result c.from_residual.ensures.1 in
    let same = c.loop-self.invariant.same in
    rw (p.1, p.2)
    (record {
      same = same_planes _ _ _ same c.in_err-left.ensures.same;
      read = tt;
      err =
          (row_halted c.args.self.now.lines.width (coding_of c.args.self.now) c.args.self.now.lines.samples c.loop-self.self.lines.samples
          c.args.self.now.lines.x c.args.self.now.index c.loop-self.self.index c.loop-self.self.lines.x
          c.args.self.now.states.items c.loop-self.self.states.items c.args.self.now.bits.left c.loop-self.self.bits.left _ c.requires.start
          c.loop-self.invariant.continued c.loop-self.invariant.count
          (λ s. subst (λ n. slice_index c.loop-self.self.lines.samples s < 2 ^ n) same.depth (c.column.ensures.small s))
          (λ start bits so_far. same_read start c.loop-self.self.lines.depth c.args.self.now.lines.depth c.loop-self.self.lines.width
          c.args.self.now.lines.width c.loop-self.self.tables.now c.args.self.now.tables.now
          c.loop-self.self.index c.loop-self.self.index bits c.loop-self.self.bits.left
          c.loop-self.self.lines.samples c.loop-self.self.lines.samples c.loop-self.self.lines.x c.loop-self.self.lines.x c.loop-self.self.states.items
          (sym same.depth) (sym same.width) (sym same.tables) refl refl refl
          (c.loop-self.invariant.read start bits so_far))
          (same_halted c.loop-self.self.lines.depth c.args.self.now.lines.depth c.loop-self.self.lines.width c.args.self.now.lines.width
          c.loop-self.self.tables.now c.args.self.now.tables.now
          c.loop-self.self.lines.samples c.loop-self.self.lines.x c.loop-self.self.lines.x c.loop-self.self.index c.loop-self.self.states.items
          c.loop-self.self.bits.left _
          (sym same.depth) (sym same.width) (sym same.tables) refl c.in_err-left.ensures.err));
    })

pub returns : goal.returns
returns c =
    let full : c.loop-self.self.lines.x ≡ c.loop-self.self.lines.width =
    omega (arith, c.loop-self-test.false, c.column.ensures.value, c.column.ensures.within, c.width-width.ensures.value, c.loop-self.invariant.same.width) in
    record {
      same = c.loop-self.invariant.same;
      read = record {
        read = c.loop-self.invariant.read;
        continued = c.loop-self.invariant.continued;
        full = full;
        count = omega (arith, c.loop-self.invariant.count, full, c.loop-self.invariant.same.width);
        small = λ s. subst (λ n. slice_index c.loop-self.self.lines.samples s < 2 ^ n) c.loop-self.invariant.same.depth (c.column.ensures.small s);
      };
      err = tt;
    }
