use Rattle.ffv1_range.specs.Decoder.{AreStates}
use Rattle.ffv1_format_tests.proofs.records.spell_unsigned.Given as goal

abbrev pub invariant-loop-value : goal.invariant-loop-value
invariant-loop-value l = AreStates l.states
