use Rattle.std.proofs.Common.{arith}
use Rattle.ffv1_holding.specs.SliceOrder.{bytes_total}
use Rattle.ffv1_holding.specs.Inner.PoolEntries.{slice_in}
use Rattle.ffv1_holding.proofs.RisingSets.{size_kept}
use Rattle.ffv1_holding.proofs.shelf.Shelf.len.Goals as goal

pub returns : goal.returns
returns c = omega (arith, size_kept bytes_total (slice_in c.self.inside.bytes.now) c.self.inside.entries.now _ c.self.invariant.rising c.self.view_is)
