use Rattle.ffv1_range.proofs.TableSteps.{fresh_row-states}
use Rattle.ffv1_vectors.proofs.record.spell_runs.Goals as goal

pub loop-length-init : goal.loop-length-init
loop-length-init c = fresh_row-states
