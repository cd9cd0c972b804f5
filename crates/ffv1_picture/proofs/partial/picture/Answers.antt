use Rattle.std.proofs.Common.{◌≡◌, ◌∙◌, ◌+◌, List, sym, ap, subst, arith}
use Rattle.std.proofs.lemmas.Result.{err_from_is_err_and}
use Rattle.ffv1_range.specs.TileHeaders.{TileRules}
use Rattle.ffv1_range.specs.Tiles.{grid_of, tile_count}
use Rattle.ffv1_holding.specs.Reels.{reel_tiles}
use Rattle.ffv1_holding.proofs.Reels.{profile_reel}
use Rattle.ffv1_picture.specs.declared.partial.Partial.{Partial}
use Rattle.ffv1_picture.specs.PartialPictures.{ShowsTiles, IsPartialPicture}
use Rattle.ffv1_picture.specs.declared.partial.TileOutcome.{TileOutcome}
use Rattle.ffv1_picture.proofs.Decoded.{shown_sizes, shown_more}
use Rattle.ffv1_range.proofs.SetupLaws.{setup_is_in_profile}
use Rattle.ffv1_picture.proofs.OnePicture.{one_partial}
use Rattle.ffv1_picture.proofs.partial.picture.Goals as goal

pub returns-in_err-frame : goal.returns-in_err-frame
returns-in_err-frame c =
    let p = err_from_is_err_and c.from_residual.result c.from_residual.ensures.1 in
    rw p.1 (record { partial = tt; whole = λ pictures are. tt })

pub returns-in_err-tiles : goal.returns-in_err-tiles
returns-in_err-tiles c =
    let p = err_from_is_err_and c.from_residual-in_err-tiles.result c.from_residual-in_err-tiles.ensures.1 in
    rw p.1 (record { partial = tt; whole = λ pictures are. tt })

pub returns-in_err-draw_tile : goal.returns-in_err-draw_tile
returns-in_err-draw_tile c =
    let p = err_from_is_err_and c.from_residual-in_err-draw_tile.result c.from_residual-in_err-draw_tile.ensures.1 in
    rw p.1 (record { partial = tt; whole = λ pictures are. tt })

pub returns-in_err-push : goal.returns-in_err-push
returns-in_err-push c =
    let p = err_from_is_err_and c.from_residual-in_err-push.result c.from_residual-in_err-push.ensures.1 in
    rw p.1 (record { partial = tt; whole = λ pictures are. tt })

pub draw_tile-requires-clause-sizes : goal.draw_tile-requires-clause-sizes
draw_tile-requires-clause-sizes c = shown_sizes c.args.holding.now c.loop-tile.tile c.loop-tile.tiles.items c.loop-tile.frame c.loop-tile.invariant

pub loop-tile-preserved : goal.loop-tile-preserved
loop-tile-preserved c =
    let h = c.args.holding.now in
    let n = c.loop-tile.tile in
    let P : List TileOutcome → Type 0 = λ outcomes. ShowsTiles h (n + 1) outcomes c.draw_tile.new.frame in
    subst P (sym {A = List TileOutcome} c.in_ok-push.ensures.items)
    (shown_more h n c.loop-tile.tiles.items c.in_ok-draw_tile.field-0 c.loop-tile.frame c.draw_tile.new.frame c.loop-tile.invariant c.in_ok-draw_tile.ensures)

pub returns-clause-whole : goal.returns-clause-whole
returns-clause-whole c pictures are =
    let h = c.args.holding.now in
    let well_formed = c.setup-setup.ensures.well_formed in
    let counted = c.tiles-count.ensures.value ∙ ap tile_count c.grid.ensures ∙ ap (λ s. tile_count (grid_of s)) c.setup-setup.ensures.value in
    let all : c.loop-tile.tile ≡ reel_tiles h.reel = omega (arith, c.loop-tile-test.false, c.loop-tile.auto.tile-end, counted) in
    let partial : Partial = record { frame = c.loop-tile.frame; tiles = c.loop-tile.tiles } in
    let shown : IsPartialPicture h partial = subst (λ n. ShowsTiles h n c.loop-tile.tiles.items c.loop-tile.frame) all c.loop-tile.invariant in
    one_partial h (setup_is_in_profile _ _ _ _ (profile_reel h.reel well_formed.reel (ap (λ (r : TileRules). r.is_profile) c.setup-setup.ensures.rules)).0) pictures are partial shown
