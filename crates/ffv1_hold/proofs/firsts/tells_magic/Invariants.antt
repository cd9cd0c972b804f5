use Rattle.ffv1_hold.proofs.Common.{rules_of, tile_slices}
use Rattle.ffv1_holding.specs.Sets as set
use Rattle.ffv1_hold.proofs.HeldFirsts.{AreKeyframes}
use Rattle.ffv1_hold.proofs.firsts.tells_magic.Given as goal

-- the slices so far are of keyframes
abbrev pub invariant-loop-place : goal.invariant-loop-place
invariant-loop-place g l = AreKeyframes (rules_of l.recording) (set.items (tile_slices l.holding.slices 0)) l.place
