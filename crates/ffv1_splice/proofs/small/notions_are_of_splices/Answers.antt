use Rattle.ffv1_splice.proofs.SmallPlaces.{given_back_is_spliced}
use Rattle.ffv1_splice.proofs.SmallSettled.{settled_is_given_back}
use Rattle.ffv1_splice.proofs.SmallPremises.{weavable_is_within_reach, near_copies_are_near, each_link_is_settled}
use Rattle.ffv1_splice.proofs.small.notions_are_of_splices.Goals as goal

pub returns-clause-spliced : goal.returns-clause-spliced
returns-clause-spliced c = given_back_is_spliced

pub returns-clause-settled : goal.returns-clause-settled
returns-clause-settled c = settled_is_given_back

pub returns-clause-weavable : goal.returns-clause-weavable
returns-clause-weavable c = weavable_is_within_reach

pub returns-clause-near : goal.returns-clause-near
returns-clause-near c = near_copies_are_near

pub returns-clause-each_link : goal.returns-clause-each_link
returns-clause-each_link c = each_link_is_settled
