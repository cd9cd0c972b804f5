use Rattle.ffv1_range.specs.Inner.TableForms.{AreStateRows}
use Rattle.ffv1_vectors.proofs.record.spell_context_deltas.Given as goal

abbrev pub invariant-loop-k : goal.invariant-loop-k
invariant-loop-k l = AreStateRows l.rows
