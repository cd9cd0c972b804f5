use Rattle.std.proofs.Common.{◌≡◌, take, sum_by}
use Rattle.ffv1_holding.specs.declared.fresh.Fresh.{Fresh}
use Rattle.ffv1_holding.specs.declared.pool_entry.PoolEntry.{PoolEntry}
use Rattle.ffv1_holding.proofs.fresh.room_of.Given as goal

-- the bytes of the slices passed so far
abbrev pub invariant-loop-new : goal.invariant-loop-new
invariant-loop-new l = l.room ≡ sum_by (λ (f : Fresh PoolEntry). f.item.length) (take l.new-index l.fresh)
