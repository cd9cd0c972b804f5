use Rattle.std.proofs.Common.{◌-◌, arith}
use Rattle.ffv1_plane.proofs.Runs.{begin_run, full_length, more_run, line_run, rest_run, end_run, cut_run}
use Rattle.ffv1_plane.proofs.run.read_run.Goals as goal

pub loop-skipped-init : goal.loop-skipped-init
loop-skipped-init c = begin_run c.args.left c.args.index.now c.args.bits.now.left

pub overflow_sub-left : goal.overflow_sub-left
overflow_sub-left c = c.loop-skipped.invariant.fits

pub read-requires : goal.read-requires
read-requires c = record { some_left = omega (arith, c.loop-skipped-test.true); few_left = omega (arith, c.requires.few_left) }

pub overflow_add-skipped : goal.overflow_add-skipped
overflow_add-skipped c =
    let read = rw c.in-Ok-Full.field-0-is at c.in-Ok-Full.ensures.ok in
    let word = full_length (c.args.left - c.loop-skipped.skipped) c.loop-skipped.index c.in-Ok-Full.n c.read.new.self c.loop-skipped.bits c.read.new.bits read in
    omega (arith, word.1, c.loop-skipped.invariant.fits, c.requires.few_left)

pub loop-skipped-smaller : goal.loop-skipped-smaller
loop-skipped-smaller c =
    let read = rw c.in-Ok-Full.field-0-is at c.in-Ok-Full.ensures.ok in
    let word = full_length (c.args.left - c.loop-skipped.skipped) c.loop-skipped.index c.in-Ok-Full.n c.read.new.self c.loop-skipped.bits c.read.new.bits read in
    omega (arith, word.0, word.1, c.loop-skipped-test.true)

pub loop-skipped-preserved : goal.loop-skipped-preserved
loop-skipped-preserved c =
    let read = rw c.in-Ok-Full.field-0-is at c.in-Ok-Full.ensures.ok in
    more_run c.args.left c.args.index.now c.loop-skipped.skipped c.loop-skipped.index c.in-Ok-Full.n c.read.new.self c.args.bits.now.left
    c.loop-skipped.bits c.read.new.bits c.loop-skipped.invariant read

pub returns-in-Ok-Rest : goal.returns-in-Ok-Rest
returns-in-Ok-Rest c =
    let read = rw c.in-Ok-Rest.field-0-is at c.in-Ok-Rest.ensures.ok in
    record {
      ok =
          rest_run c.args.left c.args.index.now c.loop-skipped.skipped c.loop-skipped.index c.in-Ok-Rest.n c.read.new.self c.args.bits.now.left
          c.loop-skipped.bits c.read.new.bits c.loop-skipped.invariant read;
      truncated = tt;
      err = tt;
    }

pub returns-in-Ok-ToEnd : goal.returns-in-Ok-ToEnd
returns-in-Ok-ToEnd c =
    let read = rw c.in-Ok-ToEnd.field-0-is at c.in-Ok-ToEnd.ensures.ok in
    record {
      ok =
          end_run c.args.left c.args.index.now c.loop-skipped.skipped c.loop-skipped.index c.read.new.self c.args.bits.now.left c.loop-skipped.bits
          c.read.new.bits c.loop-skipped-test.true c.loop-skipped.invariant read;
      truncated = tt;
      err = tt;
    }

pub returns-in-Err-clause-err : goal.returns-in-Err-clause-err
returns-in-Err-clause-err c =
    cut_run c.args.left c.args.index.now c.loop-skipped.skipped c.loop-skipped.index c.args.bits.now.left c.loop-skipped.bits.left c.loop-skipped-test.true
    c.loop-skipped.invariant c.in-Err.ensures.err

pub returns : goal.returns
returns c = record {
  ok =
      line_run c.args.left c.args.index.now c.loop-skipped.skipped c.loop-skipped.index c.args.bits.now.left c.loop-skipped.bits.left
      c.loop-skipped-test.false c.loop-skipped.invariant;
  truncated = tt;
  err = tt;
}
