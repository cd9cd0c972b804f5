use Rattle.std.proofs.Common.{◌≡◌, ℕ, ◌<◌, ◌≤◌, ◌+◌, ◌++◌, List, length, drop, sum_by, vec_len, vec_capacity, get_or}
use Rattle.ffv1_holding.specs.Inner.Fresh.{IsMoved}
use Rattle.ffv1_holding.specs.declared.fresh.Fresh.{Fresh}
use Rattle.ffv1_holding.specs.declared.pool_entry.PoolEntry.{PoolEntry}
use Rattle.ffv1_holding.proofs.fresh.move_slices.Given as goal

-- the slices passed so far stand after the other bytes
abbrev pub invariant-loop-index : goal.invariant-loop-index
invariant-loop-index l = record {
  room : vec_len l.bytes + sum_by (λ (f : Fresh PoolEntry). f.item.length) (drop l.index l.fn.fresh) ≤ vec_capacity l.bytes;
  more : List ℕ;
  later : l.bytes.items ≡ l.fn.bytes.items ++ more;
  long : length l.fresh ≡ length l.fn.fresh;
  done : (i : ℕ) (d : Fresh PoolEntry) → i < l.index → IsMoved l.from l.bytes.items (get_or l.fn.fresh i d) (get_or l.fresh i d);
  left : (i : ℕ) (d : Fresh PoolEntry) → l.index ≤ i → get_or l.fresh i d ≡ get_or l.fn.fresh i d;
}
