use Rattle.ffv1_range.proofs.DeltaSteps.{fresh_rows-states}
use Rattle.ffv1_vectors.proofs.record.spell_deltas.Goals as goal

pub loop-tables-init : goal.loop-tables-init
loop-tables-init c = record { states = c.requires; rows = fresh_rows-states }
