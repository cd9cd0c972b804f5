use Rattle.std.proofs.Common.{arith}
use Rattle.ffv1_layout.proofs.Marking.{no_row_marked, one_row_marked, all_marked}
use Rattle.ffv1_layout.proofs.tiles.mark_slice.Goals as goal

pub loop-row-init : goal.loop-row-init
loop-row-init c = no_row_marked c.args.across c.args.header.now c.args.marks.now

pub loop-row-preserved : goal.loop-row-preserved
loop-row-preserved c = one_row_marked c.args.across c.args.header.now c.loop-row.row _ _ _ c.loop-row.auto.row c.loop-row.invariant c.mark.ensures

pub returns : goal.returns
returns c = all_marked c.args.across c.args.header.now c.loop-row.row _ _ (omega arith) c.loop-row.invariant
