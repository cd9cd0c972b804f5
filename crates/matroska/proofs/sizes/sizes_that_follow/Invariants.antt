use Rattle.std.proofs.Common.{◌≡◌, ◌^◌, ◌<◌, vec_len}
use Rattle.std.specs.Prelude.{IfSome}
use Rattle.matroska.proofs.SizeSteps.{SizesSoFar}
use Rattle.matroska.proofs.sizes.sizes_that_follow.Given as goal

abbrev pub invariant-loop-index : goal.invariant-loop-index
invariant-loop-index l = record {
  counted : vec_len l.sizes ≡ l._index;
  so_far : SizesSoFar l.lacing l.bytes l.sizes.items l.before l.rest;
  before : IfSome l.before (λ size. size < 2 ^ 63);
}
