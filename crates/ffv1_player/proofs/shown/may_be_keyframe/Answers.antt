use Rattle.std.proofs.Common.{sym, arith}
use Rattle.ffv1_slice.proofs.SliceFacts.{slice_footer}
use Rattle.ffv1_holding.proofs.SettledSlices.{settled_entry}
use Rattle.ffv1_player.proofs.Showing.{some_tile, may_be_settled, may_be_other}
use Rattle.ffv1_player.proofs.shown.may_be_keyframe.Goals as goal

pub state-requires : goal.state-requires
state-requires g c =
    let some = some_tile c.args.holding.now.reel c.args.recording.now c.keeps_version_3.ensures c.requires.setup in
    omega (arith, some)

pub says_no_keyframe-requires : goal.says_no_keyframe-requires
says_no_keyframe-requires g c = slice_footer c.args.holding.now.reel.rules c.in-Settled.slice.now _ 0
    (settled_entry c.args.holding.now c.reel-reel.ensures.well_formed 0 c.in-Settled.slice.now (sym c.in-Settled.ensures)).slice

pub returns-in-Settled : goal.returns-in-Settled
returns-in-Settled g c = may_be_settled c.args.recording.now c.in-Settled.slice.now _ _ c.in-Settled.ensures c.says_no_keyframe.ensures

pub returns-in_default : goal.returns-in_default
returns-in_default g c = may_be_other c.args.recording.now c.state.result _ c.state.ensures c.in_default.not-Settled
