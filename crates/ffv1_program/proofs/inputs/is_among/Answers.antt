use Rattle.ffv1_program.proofs.Words.{contains_among}
use Rattle.ffv1_program.proofs.inputs.is_among.Goals as goal

pub returns : goal.returns
returns c = contains_among c.args.words.now c.args.word.now c.contains.result c.contains.ensures.value
