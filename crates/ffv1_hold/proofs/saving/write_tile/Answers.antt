use Rattle.ffv1_hold.proofs.Common.{◌<◌, ◌+◌, [], length, take, drop, arith, sym, subst, ap, take_all, err_from_is_err_and, Writes, StopsWriting, Writes-nil, Writes-trans, StopsWriting-after, StopsWriting-of, Second, FileEntry, entries_text, tile_file_entries}
use Rattle.ffv1_hold.proofs.Slots.{entries_text-none, entries_text-at, entries_text-more}
use Rattle.ffv1_hold.proofs.TileTexts.{tile_count}
use Rattle.ffv1_hold.proofs.saving.write_tile.Goals as goal

pub loop-place-init : goal.loop-place-init
loop-place-init g c = subst (Writes _ _) (sym (entries_text-none Second)) (Writes-nil _)

pub loop-place-preserved : goal.loop-place-preserved
loop-place-preserved g c =
    let es = tile_file_entries c.args.holding.now c.args.tile in
    let i = c.loop-place.place in
    let d : FileEntry = ((c.args.tile, []), []) in
    let in_range : i < length es = omega (arith, c.loop-place-test.true, c.held-place-end.ensures, tile_count c.args.holding.now c.args.tile) in
    subst (Writes _ _) (sym (entries_text-more Second es i d in_range)) (Writes-trans _ _ _ _ _ c.loop-place.invariant (c.in_ok-write_held.ensures d))

pub returns-in_err-write_held : goal.returns-in_err-write_held
returns-in_err-write_held g c =
    let p = err_from_is_err_and c.from_residual.result c.from_residual.ensures.1 in
    let es = tile_file_entries c.args.holding.now c.args.tile in
    let i = c.loop-place.place in
    let d : FileEntry = ((c.args.tile, []), []) in
    let in_range : i < length es = omega (arith, c.loop-place-test.true, c.held-place-end.ensures, tile_count c.args.holding.now c.args.tile) in
    let more = StopsWriting-of _ _ _ (entries_text Second (drop (i + 1) es)) (c.in_err-write_held.ensures d) in
    rw p.1 (subst (StopsWriting _ _) (sym (entries_text-at Second es i d in_range))
    (StopsWriting-after _ _ _ (entries_text Second (take i es)) _ c.loop-place.invariant more))

pub returns : goal.returns
returns g c =
    let es = tile_file_entries c.args.holding.now c.args.tile in
    let all = take_all c.loop-place.place es (omega (arith, c.loop-place-test.false, c.held-place-end.ensures, tile_count c.args.holding.now c.args.tile)) in
    subst (Writes _ _) (ap (entries_text Second) all) c.loop-place.invariant
