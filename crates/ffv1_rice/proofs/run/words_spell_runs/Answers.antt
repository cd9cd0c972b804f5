use Rattle.ffv1_rice.proofs.Words.{spelled_by_words}
use Rattle.ffv1_rice.proofs.run.words_spell_runs.Goals as goal

pub returns : goal.returns
returns c = spelled_by_words
