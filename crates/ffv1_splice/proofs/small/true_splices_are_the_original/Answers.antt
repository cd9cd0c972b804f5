use Rattle.ffv1_splice.proofs.SmallSplices.{spliced_is_the_original, settled_is_spliced}
use Rattle.ffv1_splice.proofs.SmallNear.{near_copies_settle, spliced_of_near_is_the_original}
use Rattle.ffv1_splice.proofs.small.true_splices_are_the_original.Goals as goal

pub returns-clause-original : goal.returns-clause-original
returns-clause-original c = spliced_is_the_original

pub returns-clause-near : goal.returns-clause-near
returns-clause-near c = spliced_of_near_is_the_original

pub returns-clause-settled : goal.returns-clause-settled
returns-clause-settled c = near_copies_settle

pub returns-clause-spliced : goal.returns-clause-spliced
returns-clause-spliced c = settled_is_spliced
