use Rattle.ffv1_holding.specs.Inner.Rows.{rows_of}
use Rattle.ffv1_holding.proofs.FreshSteps.{AreRowsSifted}
use Rattle.ffv1_holding.proofs.rows.fresh_rows.Given as goal

-- of the rows passed so far, just those are listed that are not held
abbrev pub invariant-loop-index : goal.invariant-loop-index
invariant-loop-index l = AreRowsSifted (rows_of l.held) l.coming.bytes.now l.coming.owners.now l.coming.digests.now l.index l.owners.items l.digests.items
