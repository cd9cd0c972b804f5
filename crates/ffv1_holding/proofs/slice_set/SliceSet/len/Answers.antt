use Rattle.std.proofs.Common.{arith}
use Rattle.ffv1_holding.specs.SliceOrder.{bytes_total}
use Rattle.ffv1_holding.proofs.RisingSets.{size_kept}
use Rattle.ffv1_holding.proofs.slice_set.SliceSet.len.Goals as goal

pub returns : goal.returns
returns c = omega (arith, c.len.ensures, size_kept bytes_total (λ v. v.items) c.self.inside.slices.items _ c.self.invariant c.self.view_is)
