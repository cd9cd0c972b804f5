use Rattle.std.proofs.Common.{map, refl, sym, ap, ◌∙◌, inl, inr, arith}
use Rattle.std.proofs.lemmas.Result.{err_from_is_err_and}
use Rattle.ffv1_stretches.specs.Inner.CellSteps.{cell_now}
use Rattle.ffv1_stretches.proofs.Mending.{before_all, after_all, stretch_here, follows_here, pass_stops, rooms_held, pass_stays, from_held, long_held, one_stopped, one_mended}
use Rattle.ffv1_stretches.specs.declared.pass.MendFault.TheVariants as faults
use Rattle.ffv1_stretches.proofs.Touching.{touched_last, touched_on}
use Rattle.ffv1_stretches.proofs.pass.mend_stretches.Goals as goal

pub loop-index-init : goal.loop-index-init
loop-index-init g c = record {
  so_far = before_all g.S.Source.log c.args.copies.now (g.O.Sink.log c.args.out.now) (g.W.Sink.log c.args.output.now) c.requires.unread;
  out_touched = inl refl;
  output_touched = inl refl;
}

pub read_stretch-requires-clause-count : goal.read_stretch-requires-clause-count
read_stretch-requires-clause-count g c =
    (stretch_here g.S.Source.log c.args.stretches.now c.loop-index.index c.index-stretches-index.result c.index-stretches-index.is c.loop-index-test.true
    c.args.copies.now c.loop-index.copies c.requires.order c.loop-index.auto.copies _ _ _ _ _ c.loop-index.invariant.so_far).count ∙ sym c.loop-index.auto.copies

pub read_stretch-requires-clause-follows : goal.read_stretch-requires-clause-follows
read_stretch-requires-clause-follows g c =
    follows_here g.S.Source.log c.args.stretches.now c.loop-index.index c.index-stretches-index.result c.index-stretches-index.is c.loop-index-test.true
    c.args.copies.now c.loop-index.copies c.requires.order c.loop-index.auto.copies _ _ _ _ _ c.loop-index.invariant.so_far

pub returns-in_err-read_stretch : goal.returns-in_err-read_stretch
returns-in_err-read_stretch g c =
    let p = err_from_is_err_and c.from_residual.result c.from_residual.ensures.1 in
    rw (p.1, p.2) (record {
      mended = pass_stops g.S.Source.log c.args.stretches.now c.loop-index.index c.index-stretches-index.result c.index-stretches-index.is c.loop-index-test.true
          c.args.copies.now c.loop-index.copies c.requires.order c.loop-index.auto.copies _ _ _ _ _ c.loop-index.invariant.so_far
          (Unit {0}) c.read_stretch.new.copies c.in_err-read_stretch.field-0.0 c.in_err-read_stretch.ensures;
      out_untouched = inr c.loop-index.invariant.out_touched;
      output_untouched = inr c.loop-index.invariant.output_touched;
    })

pub cells_of-requires-clause-held : goal.cells_of-requires-clause-held
cells_of-requires-clause-held g c =
    let (steps, are) = c.in_ok-read_stretch.ensures in
    rooms_held g.S.Source.log c.args.stretches.now c.loop-index.index c.index-stretches-index.result c.index-stretches-index.is c.loop-index-test.true
    c.args.copies.now c.loop-index.copies c.requires.order c.loop-index.auto.copies _ _ _ _ _ c.loop-index.invariant.so_far
    c.read_stretch.new.copies steps are

pub returns-in_err-cells : goal.returns-in_err-cells
returns-in_err-cells g c =
    let p = err_from_is_err_and c.from_residual-in_err-cells.result c.from_residual-in_err-cells.ensures.1 in
    let (steps, are) = c.in_ok-read_stretch.ensures in
    rw (p.1, p.2) (record {
      mended = pass_stays g.S.Source.log c.args.stretches.now c.loop-index.index c.index-stretches-index.result c.index-stretches-index.is c.loop-index-test.true
          c.args.copies.now c.loop-index.copies c.requires.order c.loop-index.auto.copies _ _ _ _ _ c.loop-index.invariant.so_far
          c.read_stretch.new.copies steps are;
      out_untouched = inr c.loop-index.invariant.out_touched;
      output_untouched = inr c.loop-index.invariant.output_touched;
    })

pub mend_one-requires : goal.mend_one-requires
mend_one-requires g c =
    let (steps, are) = c.in_ok-read_stretch.ensures in
    let cells = ap (map cell_now) c.as_slice.ensures.value ∙ c.in_ok-cells.ensures in
    record {
      from = from_held g.S.Source.log c.args.stretches.now c.loop-index.index c.index-stretches-index.result c.index-stretches-index.is c.loop-index-test.true
          c.args.copies.now c.loop-index.copies c.requires.order c.loop-index.auto.copies _ _ _ _ _ c.loop-index.invariant.so_far
          c.read_stretch.new.copies steps are (map cell_now c.as_slice.result.now) cells;
      long = long_held g.S.Source.log c.args.stretches.now c.loop-index.index c.index-stretches-index.result c.index-stretches-index.is c.loop-index-test.true
          c.args.copies.now c.loop-index.copies c.requires.order c.loop-index.auto.copies _ _ _ _ _ c.loop-index.invariant.so_far
          c.read_stretch.new.copies steps are (map cell_now c.as_slice.result.now) cells;
      parts = (stretch_here g.S.Source.log c.args.stretches.now c.loop-index.index c.index-stretches-index.result c.index-stretches-index.is c.loop-index-test.true
          c.args.copies.now c.loop-index.copies c.requires.order c.loop-index.auto.copies _ _ _ _ _ c.loop-index.invariant.so_far).parts';
    }

pub returns-in_err-good : goal.returns-in_err-good
returns-in_err-good g c =
    let p = err_from_is_err_and c.from_residual-in_err-good.result c.from_residual-in_err-good.ensures.1 in
    let (steps, are) = c.in_ok-read_stretch.ensures in
    rw (p.1, p.2) (record {
      mended = one_stopped g.S.Source.log c.args.stretches.now c.loop-index.index c.index-stretches-index.result c.index-stretches-index.is c.loop-index-test.true
          c.args.copies.now c.loop-index.copies c.requires.order c.loop-index.auto.copies _ _ _ _ _ c.loop-index.invariant.so_far
          c.read_stretch.new.copies steps are (map cell_now c.as_slice.result.now) (ap (map cell_now) c.as_slice.ensures.value ∙ c.in_ok-cells.ensures)
          c.in_err-good.field-0.0 _ _ c.in_err-good.ensures.mended;
      out_untouched = touched_last g.O.Sink.log _ _ _ c.in_err-good.field-0.0 faults.Out c.loop-index.invariant.out_touched c.in_err-good.ensures.out_touched;
      output_untouched = touched_last g.W.Sink.log _ _ _ c.in_err-good.field-0.0 faults.Output c.loop-index.invariant.output_touched c.in_err-good.ensures.output_touched;
    })

pub loop-index-preserved : goal.loop-index-preserved
loop-index-preserved g c =
    let (steps, are) = c.in_ok-read_stretch.ensures in
    record {
      so_far = one_mended g.S.Source.log c.args.stretches.now c.loop-index.index c.index-stretches-index.result c.index-stretches-index.is c.loop-index-test.true
          c.args.copies.now c.loop-index.copies c.requires.order c.loop-index.auto.copies _ _ _ _ _ c.loop-index.invariant.so_far
          c.read_stretch.new.copies steps are (map cell_now c.as_slice.result.now) (ap (map cell_now) c.as_slice.ensures.value ∙ c.in_ok-cells.ensures)
          c.in_ok-good.field-0 _ _ c.in_ok-good.ensures.mended;
      out_touched = touched_on g.O.Sink.log _ _ _ c.in_ok-good.field-0 faults.Out c.loop-index.invariant.out_touched c.in_ok-good.ensures.out_touched;
      output_touched = touched_on g.W.Sink.log _ _ _ c.in_ok-good.field-0 faults.Output c.loop-index.invariant.output_touched c.in_ok-good.ensures.output_touched;
    }

pub returns-clause-mended : goal.returns-clause-mended
returns-clause-mended g c =
    after_all g.S.Source.log c.args.stretches.now c.loop-index.index c.args.copies.now c.loop-index.copies c.loop-index.auto.copies
    (omega (arith, c.loop-index-test.false)) _ _ _ _ c.loop-index.good c.loop-index.invariant.so_far
