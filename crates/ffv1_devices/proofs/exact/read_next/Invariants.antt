use Rattle.std.proofs.Common.{◌≤◌, ◌+◌, ◌-◌, take, max, vec_len}
use Rattle.ffv1_devices.specs.Logs.{Reads}
use Rattle.ffv1_devices.specs.Exact.{block}
use Rattle.ffv1_devices.proofs.exact.read_next.Given as goal

-- What came so far stands at the front of the room.
abbrev pub invariant-loop-filled : goal.invariant-loop-filled
invariant-loop-filled g l = record {
  within : l.filled ≤ vec_len l.room;
  front : l.filled ≤ l.size;
  read : Reads (g.S.Source.log l.initial.source) (g.S.Source.log l.source) (take l.filled l.room.items);
  least : vec_len l.initial.room ≤ vec_len l.room;
  most : vec_len l.room ≤ max (vec_len l.initial.room) l.size;
  grown : vec_len l.room ≤ max (vec_len l.initial.room) (l.filled + max l.filled block);
}

abbrev pub decreases-loop-filled : goal.decreases-loop-filled
decreases-loop-filled g l = l.size - l.filled
