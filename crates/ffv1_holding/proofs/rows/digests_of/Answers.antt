use Rattle.std.proofs.Common.{sym}
use Rattle.ffv1_holding.specs.SliceOrder.{Entry}
use Rattle.ffv1_holding.specs.Inner.PoolEntries.{entry_in}
use Rattle.ffv1_holding.proofs.RowParts.{part_rising}
use Rattle.ffv1_holding.proofs.DigestParts.{digests_in-part}
use Rattle.ffv1_holding.proofs.rows.digests_of.Goals as goal

pub returns-clause-digests : goal.returns-clause-digests
returns-clause-digests c =
    let r = c.args.rows in
    let q : Entry = entry_in r.bytes.now c.args.entry in
    sym (digests_in-part r.bytes.now r.owners.now r.digests.now c.requires q c.part_of-start.result.0 c.part_of-start.result.1 c.part_of-start.ensures)

pub returns-clause-rising : goal.returns-clause-rising
returns-clause-rising c =
    let r = c.args.rows in
    let q : Entry = entry_in r.bytes.now c.args.entry in
    part_rising r.bytes.now r.owners.now r.digests.now c.requires q c.part_of-start.result.0 c.part_of-start.result.1 c.part_of-start.ensures
