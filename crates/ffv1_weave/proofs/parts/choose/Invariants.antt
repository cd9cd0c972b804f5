use Rattle.ffv1_weave.proofs.Common.{◌≡◌, length, drop, chosen}
use Rattle.ffv1_weave.proofs.parts.choose.Given as goal

-- The choices in the rest make of these bytes what all make of the first.
abbrev pub invariant-loop-part : goal.invariant-loop-part
invariant-loop-part l = record {
  same_length : length l.bytes ≡ length l.initial.bytes;
  rest : chosen (drop l.part-index l.parts) l.rest l.bytes ≡ chosen l.parts l.code l.initial.bytes;
}
