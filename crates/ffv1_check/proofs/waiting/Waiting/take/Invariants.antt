use Rattle.std.proofs.Common.{◌≡◌, ◌++◌, take}
use Rattle.std.specs.List.{flat_map}
use Rattle.ffv1_check.specs.Inner.Vouched.{waits}
use Rattle.ffv1_check.proofs.waiting.Waiting.take.Given as goal

abbrev pub invariant-loop-part : goal.invariant-loop-part
invariant-loop-part l = record {
  blocks : l.self.blocks.items ≡ l.fn.self.blocks.items ++ flat_map waits (take l.part-index l.parts);
  checked : l.self.checked ≡ l.fn.self.checked;
}
