use Rattle.std.proofs.Common.{◌-◌, List, subst, take, drop, map, ap, ◌∙◌}
use Rattle.ffv1_holding.specs.Sets as set
use Rattle.ffv1_holding.specs.Inner.TileSets.{TileSlices}
use Rattle.ffv1_holding.specs.Inner.PoolEntries.{slice_in, IsTilePart}
use Rattle.ffv1_holding.specs.declared.pool_entry.PoolEntry.{PoolEntry}
use Rattle.ffv1_holding.proofs.TileParts.{tiles_rise, tile_slices-part, is_shelf}
use Rattle.ffv1_holding.proofs.pool.Pool.of_tile.Goals as goal

pub tile_part-start-requires : goal.tile_part-start-requires
tile_part-start-requires c = rw c.deref.ensures.value (tiles_rise c.self.inside.bytes.items c.self.inside.entries.items c.self.invariant.pool.rising)

pub new-requires : goal.new-requires
new-requires c =
    let a = c.tile_part-start.result.0 in
    let b = c.tile_part-start.result.1 in
    rw (c.deref-2.ensures.value, c.deref-3.ensures.value)
    (is_shelf c.self.inside.bytes.items c.self.inside.entries.items c.self.invariant.pool c.args.tile a b
    (subst (λ (es : List PoolEntry). IsTilePart es c.args.tile a b) c.deref.ensures.value c.tile_part-start.ensures))

pub returns : goal.returns
returns c =
    let a = c.tile_part-start.result.0 in
    let b = c.tile_part-start.result.1 in
    c.new.ensures
    ∙ (λ i. set.from_list (map (slice_in (c.deref-2.ensures.value i)) (take (b - a) (drop a (c.deref-3.ensures.value i)))))
    ∙ tile_slices-part c.self.inside.bytes.items c.self.inside.entries.items c.self.invariant.pool c.args.tile a b
    (subst (λ (es : List PoolEntry). IsTilePart es c.args.tile a b) c.deref.ensures.value c.tile_part-start.ensures)
    c.args.self.now.slices (ap (λ (h : TileSlices). h.slices) c.self.view_is)
