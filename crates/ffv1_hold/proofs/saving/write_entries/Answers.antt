use Rattle.ffv1_hold.proofs.Common.{◌≡◌, ◌<◌, arith, sym, subst, ap, ◌∙◌, err_from_is_err_and, Writes, StopsWriting, Writes-nil, Writes-trans, StopsWriting-after, StopsWriting-of, reel_tiles, Second, file_entries_below, entries_text}
use Rattle.ffv1_hold.proofs.Slots.{entries_text-none}
use Rattle.ffv1_hold.proofs.TileTexts.{text_below-more, text_goes_on, file_entries_below-all}
use Rattle.ffv1_hold.proofs.SavedTiles.{tile_within_limit}
use Rattle.ffv1_hold.proofs.saving.write_entries.Goals as goal

pub loop-tile-init : goal.loop-tile-init
loop-tile-init g c = subst (Writes _ _) (sym (entries_text-none Second)) (Writes-nil _)

pub write_tile-requires-clause-fits : goal.write_tile-requires-clause-fits
write_tile-requires-clause-fits g c = tile_within_limit c.args.holding.now c.requires.entries c.loop-tile.tile

pub loop-tile-preserved : goal.loop-tile-preserved
loop-tile-preserved g c =
    subst (Writes _ _) (sym (text_below-more c.args.holding.now c.loop-tile.tile)) (Writes-trans _ _ _ _ _ c.loop-tile.invariant c.in_ok-write_tile.ensures)

pub returns-in_err-write_tile : goal.returns-in_err-write_tile
returns-in_err-write_tile g c =
    let p = err_from_is_err_and c.from_residual.result c.from_residual.ensures.1 in
    let h = c.args.holding.now in
    let t = c.loop-tile.tile in
    let n = reel_tiles h.reel in
    let lt : t < n = omega (arith, c.loop-tile-test.true, c.tiles-tile-end.ensures.count, ap reel_tiles c.reel.ensures.value) in
    let after = text_goes_on h t n lt in
    let more = StopsWriting-of _ _ _ after.0 c.in_err-write_tile.ensures in
    rw p.1 (subst (StopsWriting _ _) (sym after.1 ∙ ap (entries_text Second) (file_entries_below-all h n c.requires.entries.tile))
    (StopsWriting-after _ _ _ (entries_text Second (file_entries_below h t)) _ c.loop-tile.invariant more))

pub returns : goal.returns
returns g c =
    let h = c.args.holding.now in
    let n = reel_tiles h.reel in
    let same = ap reel_tiles c.reel.ensures.value in
    let end : c.loop-tile.tile ≡ n = omega (arith, c.loop-tile-test.false, c.loop-tile.auto.tile-end, c.tiles-tile-end.ensures.count) in
    subst (Writes _ _) (ap (entries_text Second) (ap (file_entries_below h) end ∙ file_entries_below-all h n c.requires.entries.tile)) c.loop-tile.invariant
