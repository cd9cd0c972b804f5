use Rattle.std.proofs.Common.{ap, arith}
use Rattle.ffv1_holding.specs.SliceOrder.{entries_total}
use Rattle.ffv1_holding.specs.Inner.TileSets.{TileSlices}
use Rattle.ffv1_holding.specs.Inner.PoolEntries.{entry_in}
use Rattle.ffv1_holding.proofs.RisingSets.{size_kept}
use Rattle.ffv1_holding.proofs.pool.Pool.size.Goals as goal

pub returns : goal.returns
returns c =
    omega (
      arith,
      c.len.ensures,
      size_kept entries_total (entry_in c.self.inside.bytes.items) c.self.inside.entries.items _ c.self.invariant.pool.rising
          (ap (λ (h : TileSlices). h.slices) c.self.view_is),
    )
