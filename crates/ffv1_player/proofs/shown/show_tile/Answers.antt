use Rattle.std.proofs.Common.{sym}
use Rattle.ffv1_slice.proofs.SliceFacts.{slice_footer}
use Rattle.ffv1_holding.proofs.SettledSlices.{settled_entry}
use Rattle.ffv1_player.proofs.Showing.{tile_of_slice, tile_of_no_keyframe}
use Rattle.ffv1_player.proofs.shown.show_tile.Goals as goal

pub show_slice-requires-clause-footer : goal.show_slice-requires-clause-footer
show_slice-requires-clause-footer g c = slice_footer c.args.holding.now.reel.rules c.in-Settled.slice.now _ c.args.tile
    (settled_entry c.args.holding.now c.reel-reel.ensures.well_formed c.args.tile c.in-Settled.slice.now (sym c.in-Settled.ensures)).slice

pub show_slice-requires-clause-short : goal.show_slice-requires-clause-short
show_slice-requires-clause-short g c =
    (settled_entry c.args.holding.now c.reel-reel.ensures.well_formed c.args.tile c.in-Settled.slice.now (sym c.in-Settled.ensures)).fits

pub returns-then-samples : goal.returns-then-samples
returns-then-samples g c =
    tile_of_slice c.args.holding.now c.args.recording.now c.args.tile c.in-Settled.slice.now c.args.samples.now c.in-Settled.ensures c.show_slice.new.samples
    c.show_slice.result c.if-samples.true c.show_slice.ensures

pub returns-else-samples : goal.returns-else-samples
returns-else-samples g c =
    tile_of_no_keyframe c.args.holding.now c.args.recording.now c.args.tile c.in-Settled.slice.now c.args.samples.now c.in-Settled.ensures c.if-samples.false
