use Rattle.std.proofs.Common.{◌≤◌, ◌<◌, length, arith, get_or}
use Rattle.ffv1_makings.proofs.TableSets.{sum_more, All-more}
use Rattle.ffv1_makings.proofs.sets.is_table.Goals as goal

pub loop-length-preserved : goal.loop-length-preserved
loop-length-preserved c =
    let run = get_or c.args.runs.now c.loop-length.length-index 0 in
    let at : c.loop-length.length-index < length c.args.runs.now = omega arith in
    let some : 1 ≤ run = omega arith in
    record {
      sum = omega (arith, c.loop-length.invariant.sum, sum_more c.args.runs.now c.loop-length.length-index at);
      whole = omega (arith, c.loop-length.invariant.whole);
      few = omega (arith, c.loop-length.invariant.few);
      not_empty = All-more (λ len. 1 ≤ len) c.args.runs.now c.loop-length.length-index 0 at c.loop-length.invariant.not_empty some;
    }
