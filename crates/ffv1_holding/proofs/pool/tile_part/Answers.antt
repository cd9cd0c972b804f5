use Rattle.std.proofs.Common.{ltb, leb, rules}
use Rattle.std.proofs.lemmas.List.Sorted.{IsPartitionedBy-ltb, IsPartitionedBy-leb, IsPartitionPoint-from_clause}
use Rattle.ffv1_holding.specs.declared.pool_entry.PoolEntry.{PoolEntry}
use Rattle.ffv1_holding.proofs.TileParts.{tile_parted}
use Rattle.ffv1_holding.proofs.pool.tile_part.Goals as goal

-- both searches are by tile, which does not fall
pub returns : goal.returns
returns c =
    let es = c.args.entries.now in
    let t = c.args.tile in
    tile_parted es t c.partition_point-start.result c.partition_point-end.result c.partition_point-start.ensures.bound c.partition_point-end.ensures.bound
    (IsPartitionPoint-from_clause (λ (e : PoolEntry). ltb e.tile t) es c.partition_point-start.result
    c.partition_point-start.ensures.partitioned (IsPartitionedBy-ltb (λ e. e.tile) es t c.requires) (λ a r g called. search rules))
    (IsPartitionPoint-from_clause (λ (e : PoolEntry). leb e.tile t) es c.partition_point-end.result
    c.partition_point-end.ensures.partitioned (IsPartitionedBy-leb (λ e. e.tile) es t c.requires) (λ a r g called. search rules))
