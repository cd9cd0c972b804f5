use Rattle.ffv1_range.specs.Inner.TableForms.{AreStateRows}
use Rattle.ffv1_vectors.proofs.record.spell_set_deltas.Given as goal

abbrev pub invariant-loop : goal.invariant-loop
invariant-loop l = AreStateRows l.rows
