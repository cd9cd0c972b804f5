use Rattle.std.proofs.Common.{◌≡◌, ◌+◌, ◌<◌, length}
use Rattle.std.specs.Prelude.{not}
use Rattle.std.specs.List.{list_all}
use Rattle.ffv1_samples.proofs.ends.is_clean_rest.Given as goal

abbrev pub invariant-loop-count : goal.invariant-loop-count
invariant-loop-count l = record {
  few : l._count + length l.bits.left < 8;
  same : list_all not l.bits.left ≡ list_all not l.initial.bits.left;
}
