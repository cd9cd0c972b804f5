use Rattle.ffv1_range.proofs.TableSteps.{fresh_row-states}
use Rattle.ffv1_vectors.proofs.slice.spell_header.Goals as goal

pub all_unsigned-requires : goal.all_unsigned-requires
all_unsigned-requires c = fresh_row-states
