use Rattle.ffv1_stretches.proofs.WordLemmas.{begins_as}
use Rattle.ffv1_stretches.proofs.words.begins_part.Goals as goal

pub returns-in-len1-up : goal.returns-in-len1-up
returns-in-len1-up c = begins_as c.args.words.now _ c.in-len1-up.len_at_least _ c.is_same.ensures
