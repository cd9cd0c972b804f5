use Rattle.std.proofs.Common.{◌≡◌, ◌-◌, map, drop}
use Rattle.ffv1_holding.specs.TileOrder.{fall}
use Rattle.ffv1_holding.specs.declared.pool_entry.PoolEntry.{PoolEntry}
use Rattle.ffv1_holding.proofs.take.is_in_order.Given as goal

-- those passed fall
abbrev pub invariant-loop-index : goal.invariant-loop-index
invariant-loop-index l = fall (map (λ (e : PoolEntry). e.tile) l.found) ≡ fall (drop (l.index - 1) (map (λ (e : PoolEntry). e.tile) l.found))
