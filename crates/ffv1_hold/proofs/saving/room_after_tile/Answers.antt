use Rattle.ffv1_hold.proofs.Common.{common_steps, ◌≡◌, ◌<◌, ◌+◌, ◌*◌, take, length, arith, ap, sym, ◌∙◌, take_all, tile_slices, digests_of, size-items, tile_file_entries, entries_length}
use Rattle.ffv1_holding.specs.Sets as set
use Rattle.ffv1_hold.proofs.TileTexts.{own, entry_at, tile_count, entries_length-more, entries_length-part}
use Rattle.ffv1_hold.proofs.saving.room_after_tile.Given.{Over}
use Rattle.ffv1_hold.proofs.saving.room_after_tile.Goals.{After-origins_at-origins}
use Rattle.ffv1_hold.proofs.saving.room_after_tile.Goals as goal

-- the room that this place's entry takes
taken : (g : Over) (c : After-origins_at-origins g) → entries_length (take (c.loop-place.place + 1) (tile_file_entries c.args.holding.now c.args.tile))
    ≡ entries_length (take c.loop-place.place (tile_file_entries c.args.holding.now c.args.tile))
    + (11 + length c.slice-slice.result.now + 32 * length c.origins_at-origins.result.now)
taken g c =
    let h = c.args.holding.now in
    let tile = c.args.tile in
    let bs = set.items (tile_slices h.slices tile) in
    let i = c.loop-place.place in
    let b = c.slice-slice.result.now in
    let lt : i < length bs = omega (arith, c.loop-place-test.true, c.held-place-end.ensures, size-items (tile_slices h.slices tile)) in
    let es = tile_file_entries h tile in
    let in_range : i < length es = omega (arith, c.loop-place-test.true, c.held-place-end.ensures, tile_count h tile) in
    let more = entries_length-more es i (own h (tile, b)) in_range (entry_at h tile bs i b lt c.slice-slice.ensures) in
    let same = ap length (c.origins_at-origins.ensures.digests b ∙ ap (λ x. digests_of h (tile, x)) (sym c.slice-slice.ensures)) in
    omega (arith, same, more)

pub returns-in_err-left-clause-none : goal.returns-in_err-left-clause-none
returns-in_err-left-clause-none g c =
    let long = taken g (goal.at.returns-in_err-left-clause-none g c).After-origins_at-origins in
    grind (arith, common_steps, entries_length-part)

pub loop-place-preserved : goal.loop-place-preserved
loop-place-preserved g c =
    omega (arith, c.loop-place.invariant, c.in_ok-left.ensures.some, taken g (goal.at.loop-place-preserved g c).After-origins_at-origins)

pub returns-clause-some : goal.returns-clause-some
returns-clause-some g c =
    let es = tile_file_entries c.args.holding.now c.args.tile in
    grind (arith, common_steps, take_all, tile_count)
