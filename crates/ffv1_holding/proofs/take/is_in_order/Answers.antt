use Rattle.std.proofs.Common.{◌≡◌, ◌<◌, ◌+◌, ◌-◌, ℕ, List, length, map, drop, get_or, sym, ap, ◌∙◌, arith}
use Rattle.std.proofs.lemmas.List.{length-map, get_or-map}
use Rattle.ffv1_holding.specs.TileOrder.{fall}
use Rattle.ffv1_holding.specs.declared.pool_entry.PoolEntry.{PoolEntry}
use Rattle.ffv1_holding.proofs.TileOrders.{fall_passed, fall_broken, fall_last}
use Rattle.ffv1_holding.proofs.take.is_in_order.Goals as goal

abbrev tiles : List PoolEntry → List ℕ
tiles entries = map (λ entry. entry.tile) entries

-- the tile of an entry, in the list of tiles
tile_at : (entries : List PoolEntry) (i : ℕ) → i < length entries → get_or (tiles entries) i 0 ≡ (get_or entries i (record { tile = 0; start = 0; length = 0 })).tile
tile_at entries i lt = get_or-map (λ (entry : PoolEntry). entry.tile) entries i (record { tile = 0; start = 0; length = 0 }) 0 lt

many : (entries : List PoolEntry) → length (tiles entries) ≡ length entries
many entries = length-map entries (λ (entry : PoolEntry). entry.tile)

pub returns-then-found-index : goal.returns-then-found-index
returns-then-found-index c =
    let all = c.args.found.now in
    let i = c.loop-index.index in
    let lt = c.loop-index-test.true in
    let broken = fall_broken (tiles all) (i - 1) i (omega (arith, c.loop-index.auto.index)) (omega (arith, lt, many all))
    (omega (arith, c.if-found-index.true, tile_at all i lt, tile_at all (i - 1) (omega (arith, lt)))) in
    sym (c.loop-index.invariant ∙ broken)

pub loop-index-preserved : goal.loop-index-preserved
loop-index-preserved c =
    let all = c.args.found.now in
    let i = c.loop-index.index in
    let lt = c.loop-index-test.true in
    let next = fall_passed (tiles all) (i - 1) i (omega (arith, c.loop-index.auto.index)) (omega (arith, lt, many all))
    (omega (arith, c.if-found-index.false, tile_at all i lt, tile_at all (i - 1) (omega (arith, lt)))) in
    let here : i ≡ i + 1 - 1 = omega arith in
    c.loop-index.invariant ∙ next ∙ ap (λ k. fall (drop k (tiles all))) here

pub returns : goal.returns
returns c =
    let all = c.args.found.now in
    let i = c.loop-index.index in
    sym (c.loop-index.invariant ∙ fall_last (tiles all) (i - 1) (omega (arith, c.loop-index-test.false, c.loop-index.auto.index, many all)))
