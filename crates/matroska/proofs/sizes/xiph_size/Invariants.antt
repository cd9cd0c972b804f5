use Rattle.std.proofs.Common.{◌≡◌, ◌*◌, ◌≤◌, take, replicate, length}
use Rattle.matroska.proofs.sizes.xiph_size.Given as goal

-- all bytes so far are 255
abbrev pub invariant-loop-index : goal.invariant-loop-index
invariant-loop-index l = record {
  sum : l.size ≡ 255 * l.index;
  full : take l.index l.bytes ≡ replicate l.index 255;
  small : l.size ≤ length l.bytes;
}
