use Rattle.ffv1_range.specs.Decoder.{AreStates}
use Rattle.ffv1_vectors.proofs.record.spell_runs.Given as goal

abbrev pub invariant-loop-length : goal.invariant-loop-length
invariant-loop-length l = AreStates l.states
