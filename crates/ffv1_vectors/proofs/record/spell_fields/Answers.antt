use Rattle.ffv1_range.proofs.TableSteps.{fresh_row-states}
use Rattle.ffv1_vectors.proofs.record.spell_fields.Goals as goal

pub all_unsigned-requires : goal.all_unsigned-requires
all_unsigned-requires c = fresh_row-states
