use Rattle.std.proofs.Common.{List, subst, ap, ◌∙◌, arith}
use Rattle.ffv1_holding.specs.Sets as set
use Rattle.ffv1_holding.specs.Inner.TileSets.{TileSlices}
use Rattle.ffv1_holding.specs.TileSets.{digests_in}
use Rattle.ffv1_holding.specs.Inner.PoolEntries.{entry_in, IsTilePart}
use Rattle.ffv1_holding.specs.Inner.Rows.{rows_in}
use Rattle.ffv1_holding.specs.declared.pool_entry.PoolEntry.{PoolEntry}
use Rattle.ffv1_holding.proofs.TileParts.{tiles_rise, size_part, entry_in_part, place_lent}
use Rattle.ffv1_holding.proofs.pool.Pool.origins_at.Goals as goal

pub tile_part-start-requires : goal.tile_part-start-requires
tile_part-start-requires c = rw c.deref-2.ensures.value (tiles_rise c.self.inside.bytes.items c.self.inside.entries.items c.self.invariant.pool.rising)

pub overflow_add-start : goal.overflow_add-start
overflow_add-start c =
    let kept = c.self.inside in
    let within = place_lent kept.bytes.items kept.entries.items _ c.self.invariant.pool c.deref-2.ensures.value c.args.tile _ _ c.tile_part-start.ensures _
    (ap (λ (h : TileSlices). h.slices) c.self.view_is) c.args.place c.requires in
    omega (arith, c.deref-2.type_inv.0)

pub index-requires : goal.index-requires
index-requires c =
    let kept = c.self.inside in
    let within = place_lent kept.bytes.items kept.entries.items _ c.self.invariant.pool c.deref-2.ensures.value c.args.tile _ _ c.tile_part-start.ensures _
    (ap (λ (h : TileSlices). h.slices) c.self.view_is) c.args.place c.requires in
    omega (arith, c.deref-2.ensures.len)

pub returns-clause-digests : goal.returns-clause-digests
returns-clause-digests c d =
    let a = c.tile_part-start.result.0 in
    let b = c.tile_part-start.result.1 in
    let kept = c.self.inside in
    let part = subst (λ (es : List PoolEntry). IsTilePart es c.args.tile a b) c.deref-2.ensures.value c.tile_part-start.ensures in
    let same = ap (λ (h : TileSlices). h.slices) c.self.view_is in
    let size = size_part kept.bytes.items kept.entries.items c.self.invariant.pool c.args.tile a b part c.args.self.now.slices same in
    let entry = ap (entry_in kept.bytes.items) c.index.ensures
    ∙ entry_in_part kept.bytes.items kept.entries.items c.self.invariant.pool c.args.tile a b part c.args.self.now.slices same c.args.place
    c.index.result.now d (omega (arith, c.requires)) in
    let origins = ap (λ (h : TileSlices). h.origins) c.self.view_is in
    let lent = c.lent-rows.ensures in
    let bytes = lent.bytes ∙ c.deref.ensures.value in
    c.digests_of.ensures.digests
    ∙ (λ i. digests_in (set.from_list (rows_in (bytes i) (lent.owners i) (lent.digests i))) (entry_in (bytes i) c.index.result.now))
    ∙ (λ i. digests_in (origins i) (entry i))
