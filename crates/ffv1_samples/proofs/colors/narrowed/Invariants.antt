use Rattle.std.proofs.Common.{◌≡◌, take}
use Rattle.ffv1_samples.proofs.colors.narrowed.Given as goal

abbrev pub invariant-loop-place : goal.invariant-loop-place
invariant-loop-place l = l.narrow.items ≡ take l.place l.samples
