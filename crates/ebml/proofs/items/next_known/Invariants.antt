use Rattle.std.proofs.Common.{ℕ, ◌<◌, drop}
use Rattle.ebml.specs.Items.{BeginsKnown}
use Rattle.ebml.proofs.items.next_known.Given as goal

abbrev pub invariant-loop-place : goal.invariant-loop-place
invariant-loop-place l = (place : ℕ) → 0 < place → place < l.place → BeginsKnown (drop place l.bytes) → ⊥
