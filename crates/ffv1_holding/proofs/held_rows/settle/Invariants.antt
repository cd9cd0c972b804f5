use Rattle.std.proofs.Common.{◌≡◌, ℕ, ◌<◌, ◌≤◌, length, get_or}
use Rattle.ffv1_holding.specs.Inner.Fresh.{IsMoved}
use Rattle.ffv1_holding.specs.declared.fresh.Fresh.{Fresh}
use Rattle.ffv1_holding.specs.declared.pool_entry.PoolEntry.{PoolEntry}
use Rattle.ffv1_holding.proofs.held_rows.settle.Given as goal

-- the owners passed so far are settled
abbrev pub invariant-loop-index : goal.invariant-loop-index
invariant-loop-index l = record {
  long : length l.owners ≡ length l.fn.owners;
  done : (i : ℕ) (d : Fresh PoolEntry) → i < l.index → IsMoved l.from l.bytes (get_or l.fn.owners i d) (get_or l.owners i d);
  left : (i : ℕ) (d : Fresh PoolEntry) → l.index ≤ i → get_or l.owners i d ≡ get_or l.fn.owners i d;
}
