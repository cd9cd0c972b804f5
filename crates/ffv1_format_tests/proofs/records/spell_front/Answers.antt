use Rattle.ffv1_range.proofs.TableSteps.{fresh_row-states}
use Rattle.ffv1_format_tests.proofs.records.spell_front.Goals as goal

pub write_slot-requires-clause-states : goal.write_slot-requires-clause-states
write_slot-requires-clause-states c = fresh_row-states
