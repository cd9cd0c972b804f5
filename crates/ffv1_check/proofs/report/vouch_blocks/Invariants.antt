use Rattle.ffv1_check.proofs.WaitingSteps.{VouchedTo}
use Rattle.ffv1_check.proofs.report.vouch_blocks.Given as goal

abbrev pub invariant-loop-block : goal.invariant-loop-block
invariant-loop-block l = VouchedTo l.blocks l.block-index l.fn.tracks l.tracks
