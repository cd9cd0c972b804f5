use Rattle.ffv1_range.specs.Decoder.{AreStates}
use Rattle.ffv1_range.specs.Inner.TableForms.{AreStateRows}
use Rattle.ffv1_vectors.proofs.record.spell_deltas.Given as goal

abbrev pub invariant-loop-tables : goal.invariant-loop-tables
invariant-loop-tables l = record { states : AreStates l.states; rows : AreStateRows l.rows }
