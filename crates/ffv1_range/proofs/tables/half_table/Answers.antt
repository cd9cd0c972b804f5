use Rattle.std.proofs.Common.{◌≤◌, length, subst}
use Rattle.ffv1_range.proofs.TableMeanings.{half_more, half_all}
use Rattle.ffv1_range.proofs.tables.half_table.Goals as goal

pub loop-index-preserved : goal.loop-index-preserved
loop-index-preserved c =
    let more = half_more c.args.scale c.args.runs.now c.lengths-length-items.result.now c.loop-index.half c.fill.new.half c.loop-index.index
    c.loop-index.from c.from.result
    c.lengths-length-items.ensures.value c.loop-index-test.true c.loop-index.invariant.from c.from.ensures c.loop-index.invariant.filled c.fill.ensures.filled
    c.fill.ensures.before in
    record { from = more.from; room = c.fill.array_long; filled = more.filled }

pub returns : goal.returns
returns c =
    half_all c.args.scale c.args.runs.now c.loop-index.half c.loop-index.index c.loop-index.from c.loop-index.invariant.room
    (subst (λ z. length z ≤ c.loop-index.index) c.lengths-length-items.ensures.value c.loop-index-test.false)
    c.lengths-length-items.ensures.whole c.loop-index.invariant.from c.loop-index.invariant.filled
