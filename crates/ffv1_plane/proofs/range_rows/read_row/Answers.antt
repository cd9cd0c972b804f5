use Rattle.std.proofs.Common.{◌≡◌, ◌<◌, arith, ap, sym, ◌+◌, ◌∙◌, subst, refl, slice_index, ◌^◌}
use Rattle.std.specs.Prelude.{IsOk}
use Rattle.ffv1_range.specs.Setup.{set_entry}
use Rattle.ffv1_range.proofs.Forms.{is_at_place}
use Rattle.ffv1_plane.specs.Samples.{coding_at}
use Rattle.ffv1_plane.proofs.RangeRows.{no_columns, one_more_column, sample_read_as, sample_refused_as, same_shapes}
use Rattle.ffv1_plane.specs.Inner.RangeRows.{IsRangeRowRead}
use Rattle.ffv1_plane.proofs.range_rows.read_row.Goals as goal

pub left-left-requires : goal.left-left-requires
left-left-requires c = omega (arith, c.requires.start, c.width-width.ensures.value, c.width-width.ensures.some)

pub loop-x-init : goal.loop-x-init
loop-x-init c =
    let at = is_at_place c.args.decoder c.requires.alive in
    record {
      same = record { depth = refl; width = refl };
      place = c.requires.start;
      alive = c.requires.alive;
      left = λ inside. c.left-left.ensures;
      small = c.column-column.ensures.small;
      read = λ group small.
          no_columns c.args.lines.now.width (coding_at c.args.lines.now.depth (set_entry c.args.tables.now.setup c.args.tables.now.set)) group c.args.is_signed
          c.args.lines.now.samples c.args.states.now c.args.decoder at.0 at.1;
    }

pub read_sample-requires-clause-alive : goal.read_sample-requires-clause-alive
read_sample-requires-clause-alive c = c.loop-x.invariant.alive

pub read_sample-requires-clause-depth : goal.read_sample-requires-clause-depth
read_sample-requires-clause-depth c = c.requires.depth ∙ sym c.loop-x.invariant.same.depth

pub read_sample-requires-clause-inside : goal.read_sample-requires-clause-inside
read_sample-requires-clause-inside c =
    let width = c.loop-x.invariant.same.width in
    omega (arith, c.loop-x.invariant.place, width, c.loop-x-test.true, c.width-width.ensures.value)

pub read_sample-requires-clause-left : goal.read_sample-requires-clause-left
read_sample-requires-clause-left c =
    let width = c.loop-x.invariant.same.width in
    c.loop-x.invariant.left (omega (arith, c.loop-x.invariant.place, width, c.loop-x-test.true, c.width-width.ensures.value))

pub returns-in-Err-clause-same : goal.returns-in-Err-clause-same
returns-in-Err-clause-same c = same_shapes _ _ _ c.loop-x.invariant.same c.in-Err.ensures.same

pub returns-in-Err-clause-err : goal.returns-in-Err-clause-err
returns-in-Err-clause-err c = λ group small. record {
  inside = omega (arith, c.loop-x-test.true, c.width-width.ensures.value);
  samples = c.loop-x.lines.samples;
  small = c.loop-x.invariant.small;
  after = c.loop-x.states;
  reader = c.loop-x.decoder;
  read = c.loop-x.invariant.read group small;
  refused =
      sample_refused_as c.args.lines.now.width c.loop-x.lines.width c.args.lines.now.depth c.loop-x.lines.depth
      (set_entry c.args.tables.now.setup c.args.tables.now.set) c.loop-x.lines.samples c.loop-x.states c.loop-x.decoder c.in-Err.fault
      c.loop-x.invariant.same.width c.loop-x.invariant.same.depth c.in-Err.ensures.err;
}

pub loop-x-preserved : goal.loop-x-preserved
loop-x-preserved c =
    let same = c.loop-x.invariant.same in
    record {
      same = same_shapes _ _ _ same c.in-Ok.ensures.same;
      place = c.in-Ok.ensures.moved ∙ ap (λ x. x + 1) c.loop-x.invariant.place;
      alive = subst (λ r. IsOk r.at) (sym (c.in-Ok.ensures.read 0).to) refl;
      left = c.in-Ok.ensures.left;
      small = λ s. subst (λ n. slice_index c.read_sample.new.lines.samples s < 2 ^ n) same.depth (c.in-Ok.ensures.small s);
      read = λ group small.
          one_more_column c.args.lines.now.width (coding_at c.args.lines.now.depth (set_entry c.args.tables.now.setup c.args.tables.now.set)) group c.args.is_signed
          c.args.lines.now.samples c.loop-x.lines.samples c.read_sample.new.lines.samples c.args.states.now c.loop-x.states c.read_sample.new.states
          c.args.decoder c.loop-x.decoder c.read_sample.new.decoder c.loop-x.x small (c.loop-x.invariant.read group small)
          (sample_read_as c.args.lines.now.width c.loop-x.lines.width c.args.lines.now.depth c.loop-x.lines.depth
          (set_entry c.args.tables.now.setup c.args.tables.now.set) group c.args.is_signed c.loop-x.lines.samples c.read_sample.new.lines.samples
          c.loop-x.states c.read_sample.new.states c.loop-x.decoder c.read_sample.new.decoder same.width same.depth (c.in-Ok.ensures.read group));
    }

pub returns-clause-same : goal.returns-clause-same
returns-clause-same c = c.loop-x.invariant.same

pub returns-clause-full : goal.returns-clause-full
returns-clause-full c =
    let width = c.loop-x.invariant.same.width in
    omega (arith, c.loop-x.invariant.place, width, c.loop-x-test.false, c.width-width.ensures.value, c.loop-x.auto.x-end)

pub returns-clause-small : goal.returns-clause-small
returns-clause-small c = c.loop-x.invariant.small

pub returns-clause-read : goal.returns-clause-read
returns-clause-read c = λ group small.
    let full : c.loop-x.x ≡ c.args.lines.now.width = omega (arith, c.loop-x-test.false, c.width-width.ensures.value, c.loop-x.auto.x-end) in
    subst (λ x. IsRangeRowRead c.args.lines.now.width (coding_at c.args.lines.now.depth (set_entry c.args.tables.now.setup c.args.tables.now.set)) group c.args.is_signed
    c.args.lines.now.samples c.args.states.now c.args.decoder c.loop-x.lines.samples c.loop-x.states c.loop-x.decoder x) full (c.loop-x.invariant.read group small)
