use Rattle.ffv1_check.proofs.WaitingSteps.{none_vouched, block_below, block_room, block_vouched, all_vouched}
use Rattle.std.proofs.Common.{length}
use Rattle.ffv1_check.proofs.report.vouch_blocks.Goals as goal

pub loop-block-init : goal.loop-block-init
loop-block-init c = none_vouched c.args.blocks.now c.args.tracks.now

pub vouched-state-requires : goal.vouched-state-requires
vouched-state-requires c =
    let below = block_below c.args.blocks.now (length c.args.tracks.now) c.loop-block.block-index c.requires.below c.loop-block-test.true in
    block_room c.args.blocks.now c.loop-block.block-index c.args.tracks.now c.loop-block.tracks c.loop-block.invariant c.loop-block-test.true below c.requires.room

pub loop-block-preserved : goal.loop-block-preserved
loop-block-preserved c =
    let below = block_below c.args.blocks.now (length c.args.tracks.now) c.loop-block.block-index c.requires.below c.loop-block-test.true in
    block_vouched c.args.blocks.now c.loop-block.block-index c.args.tracks.now c.loop-block.tracks c.loop-block.invariant c.loop-block-test.true below
    c.vouched-state.result c.vouched-state.ensures

pub returns : goal.returns
returns c = all_vouched c.args.blocks.now c.loop-block.block-index c.args.tracks.now c.loop-block.tracks c.loop-block.invariant c.loop-block-test.false
