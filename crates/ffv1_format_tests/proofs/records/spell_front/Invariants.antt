use Rattle.ffv1_range.specs.Decoder.{AreStates}
use Rattle.ffv1_format_tests.proofs.records.spell_front.Given as goal

abbrev pub invariant-loop-place : goal.invariant-loop-place
invariant-loop-place l = AreStates l.states
