use Rattle.ffv1_hold.proofs.Common.{◌<◌, length, subst, ap, sym, ◌∙◌, arith, err_from_is_err_and, StopsWriting, WritesAll, StopsWriting-of, WritesAll-after, tile_slices, digests_of, size-items}
use Rattle.ffv1_holding.specs.Sets as set
use Rattle.ffv1_hold.proofs.TileTexts.{held_spelled, held_there}
use Rattle.ffv1_hold.proofs.saving.write_held.Goals as goal

pub write_origins-requires-clause-few : goal.write_origins-requires-clause-few
write_origins-requires-clause-few g c =
    let h = c.args.holding.now in
    let b = c.slice.result.now in
    let s = tile_slices h.slices c.args.tile in
    let lt : c.args.place < length (set.items s) = omega (arith, c.requires.held, size-items s) in
    let few = c.requires.stated (c.args.tile, b) (held_there h c.args.tile c.args.place b lt c.slice.ensures) in
    let same = c.origins_at-origins.ensures.digests b ∙ ap (λ x. digests_of h (c.args.tile, x)) (sym c.slice.ensures) in
    omega (arith, few, ap length same)

pub returns-in_err-write_slice : goal.returns-in_err-write_slice
returns-in_err-write_slice g c d =
    let p = err_from_is_err_and c.from_residual.result c.from_residual.ensures.1 in
    let h = c.args.holding.now in
    let size = size-items (tile_slices h.slices c.args.tile) in
    let spelled = held_spelled h c.args.tile c.args.place _ (omega (arith, c.requires.held)) c.slice.ensures _ (c.origins_at-origins.ensures.digests _)
    c.origins_at-origins.ensures.rising d in
    rw p.1 (subst (StopsWriting _ _) spelled (StopsWriting-of _ _ _ _ c.in_err-write_slice.ensures))

pub returns : goal.returns
returns g c d =
    let h = c.args.holding.now in
    let size = size-items (tile_slices h.slices c.args.tile) in
    let spelled = held_spelled h c.args.tile c.args.place _ (omega (arith, c.requires.held)) c.slice.ensures _ (c.origins_at-origins.ensures.digests _)
    c.origins_at-origins.ensures.rising d in
    subst (WritesAll c.write_origins.result _ _) spelled (WritesAll-after c.write_origins.result _ _ _ _ _ c.in_ok-write_slice.ensures c.write_origins.ensures)
