use Rattle.ffv1_texts.proofs.WordSteps.{words_are_one}
use Rattle.ffv1_texts.proofs.laws.one_reading_of_words.Goals as goal

pub returns : goal.returns
returns c = words_are_one
