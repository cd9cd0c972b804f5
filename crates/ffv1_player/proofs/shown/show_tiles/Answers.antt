use Rattle.std.proofs.Common.{◌≡◌, ◌∙◌, ap, subst, arith}
use Rattle.ffv1_range.specs.Tiles.{grid_of, tile_count}
use Rattle.ffv1_holding.specs.Reels.{reel_tiles}
use Rattle.ffv1_player.specs.Shown.{ShowsEachTile}
use Rattle.ffv1_player.proofs.Showing.{shown_planes, none_shown, shown_push}
use Rattle.ffv1_player.proofs.shown.show_tiles.Goals as goal

pub show_tile-requires-clause-planes : goal.show_tile-requires-clause-planes
show_tile-requires-clause-planes g c =
    shown_planes c.args.holding.now c.args.recording.now c.may_be_keyframe-key.result c.loop-tile.tile c.loop-tile.tiles.items c.loop-tile.samples
    c.loop-tile.invariant

pub loop-tile-init : goal.loop-tile-init
loop-tile-init g c =
    none_shown c.args.holding.now c.args.recording.now c.may_be_keyframe-key.result c.in_ok-tiles.tiles.items c.in_ok-samples.samples
    c.in_ok-tiles.ensures.items c.in_ok-samples.ensures

pub loop-tile-preserved : goal.loop-tile-preserved
loop-tile-preserved g c =
    shown_push c.args.holding.now c.args.recording.now c.may_be_keyframe-key.result c.loop-tile.tile c.loop-tile.tiles.items _
    c.in_ok-show_tile.field-0 c.loop-tile.samples c.show_tile.new.samples c.in_ok-push.ensures.items c.loop-tile.invariant c.in_ok-show_tile.ensures

pub returns : goal.returns
returns g c =
    let h = c.args.holding.now in
    let r = c.args.recording.now in
    let key = c.may_be_keyframe-key.result in
    let counted = c.tiles-count.ensures.value ∙ ap tile_count c.grid.ensures ∙ ap (λ s. tile_count (grid_of s)) c.requires.setup in
    let all : c.loop-tile.tile ≡ reel_tiles h.reel = omega (arith, c.loop-tile-test.false, c.loop-tile.auto.tile-end, counted) in
    record {
      recording = r;
      says = c.requires.says;
      key = key;
      may_be = c.may_be_keyframe-key.ensures;
      known = c.is_key_known-is_key_known.ensures;
      shows = subst (λ n. ShowsEachTile h r key n c.loop-tile.tiles.items c.loop-tile.samples) all c.loop-tile.invariant;
    }
