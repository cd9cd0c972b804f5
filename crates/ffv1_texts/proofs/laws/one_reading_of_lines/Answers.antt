use Rattle.ffv1_texts.proofs.LineSteps.{lines_are_one}
use Rattle.ffv1_texts.proofs.laws.one_reading_of_lines.Goals as goal

pub returns : goal.returns
returns c = lines_are_one
