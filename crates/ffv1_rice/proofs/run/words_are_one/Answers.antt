use Rattle.ffv1_rice.proofs.OneRun.{one_word}
use Rattle.ffv1_rice.proofs.run.words_are_one.Goals as goal

pub returns : goal.returns
returns c = one_word
