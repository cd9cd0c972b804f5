use Rattle.std.proofs.Common.{rules}
use Rattle.std.specs.Ordering.{is_lt, is_le}
use Rattle.std.proofs.lemmas.Fn.{always_returns_same}
use Rattle.ffv1_holding.specs.SliceOrder.{Entry, entry_cmp}
use Rattle.ffv1_holding.specs.Inner.PoolEntries.{entry_in}
use Rattle.ffv1_holding.proofs.RowParts.{part_found}
use Rattle.ffv1_holding.proofs.rows.row_part.Goals as goal

-- both searches are by the owner's slice, which does not fall
pub returns : goal.returns
returns c =
    let r = c.args.rows in
    let q : Entry = (c.args.tile, c.args.slice.now) in
    let start = c.partition_point-start.ensures in
    let end = c.partition_point-end.ensures in
    part_found r.bytes.now r.owners.now r.digests.now c.requires q c.partition_point-start.result c.partition_point-end.result start.bound end.bound
    (start.partitioned (λ e. is_lt (entry_cmp (entry_in r.bytes.now e) q)) (always_returns_same _ _ _ (λ a r g called. search rules)))
    (end.partitioned (λ e. is_le (entry_cmp (entry_in r.bytes.now e) q)) (always_returns_same _ _ _ (λ a r g called. search rules)))
