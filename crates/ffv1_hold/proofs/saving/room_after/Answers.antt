use Rattle.ffv1_hold.proofs.Common.{common_steps, ◌≡◌, ◌<◌, ◌++◌, ◌+◌, length, arith, sym, ap, ◌∙◌, length-append, Second, reel_tiles, tile_entries, tile_file_entries, file_entries_below, entries_text}
use Rattle.ffv1_hold.proofs.Slots.{entries_text-none}
use Rattle.ffv1_hold.proofs.TileTexts.{text_below-more, text_goes_on, length-entries_text, file_entries_below-all}
use Rattle.ffv1_hold.proofs.SavedTiles.{tile_within_limit}
use Rattle.ffv1_hold.proofs.saving.room_after.Goals as goal

pub loop-tile-init : goal.loop-tile-init
loop-tile-init g c = omega (arith, ap length (entries_text-none Second))

pub room_after_tile-requires-clause-fits : goal.room_after_tile-requires-clause-fits
room_after_tile-requires-clause-fits g c = tile_within_limit c.args.holding.now c.requires.entries c.loop-tile.tile

pub loop-tile-preserved : goal.loop-tile-preserved
loop-tile-preserved g c =
    let h = c.args.holding.now in
    let t = c.loop-tile.tile in
    let block = length-entries_text h c.requires.well_formed (tile_entries h.slices t) in
    let more = ap length (text_below-more h t) ∙ length-append (entries_text Second (file_entries_below h t)) (entries_text Second (tile_file_entries h t)) in
    omega (arith, block, more, c.loop-tile.invariant, c.in_ok-left.ensures.some)

pub returns-in_err-left-clause-none : goal.returns-in_err-left-clause-none
returns-in_err-left-clause-none g c =
    let h = c.args.holding.now in
    let n = reel_tiles h.reel in
    let t = c.loop-tile.tile in
    let lt : t < n = omega (arith, c.loop-tile-test.true, c.tiles-tile-end.ensures.count, ap reel_tiles c.reel.ensures.value) in
    let block = length-entries_text h c.requires.well_formed (tile_entries h.slices t) in
    let after = text_goes_on h t n lt in
    let whole = ap length (sym (ap (entries_text Second) (file_entries_below-all h n c.requires.entries.tile)) ∙ after.1)
    ∙ length-append (entries_text Second (file_entries_below h t)) (entries_text Second (tile_file_entries h t) ++ after.0)
    ∙ ap (λ n. length (entries_text Second (file_entries_below h t)) + n) (length-append (entries_text Second (tile_file_entries h t)) after.0) in
    rw c.from_residual.ensures (omega (arith, block, whole, c.loop-tile.invariant, c.in_err-left.ensures.none))

pub returns-clause-some : goal.returns-clause-some
returns-clause-some g c =
    let h = c.args.holding.now in
    let n = reel_tiles h.reel in
    let same = ap reel_tiles c.reel.ensures.value in
    let end : c.loop-tile.tile ≡ n = omega (arith, c.loop-tile-test.false, c.loop-tile.auto.tile-end, c.tiles-tile-end.ensures.count) in
    grind (arith, common_steps, file_entries_below-all)
