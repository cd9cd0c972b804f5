use Rattle.ffv1_vectors.proofs.Bursts.{IsBurstUpTo}
use Rattle.ffv1_vectors.proofs.damage.turn_where.Given as goal

abbrev pub invariant-loop-place : goal.invariant-loop-place
invariant-loop-place l = IsBurstUpTo l.fn.bytes l.bit l.mask l.place l.bytes
