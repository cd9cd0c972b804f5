use Rattle.ffv1_range.proofs.TableSteps.{fresh_row-states}
use Rattle.ffv1_format_tests.proofs.records.spell_signed.Goals as goal

pub loop-value-init : goal.loop-value-init
loop-value-init c = fresh_row-states
