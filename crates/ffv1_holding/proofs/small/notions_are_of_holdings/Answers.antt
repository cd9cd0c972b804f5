use Rattle.ffv1_holding.proofs.SmallLinks.{original_of_rules, copies_of_rules}
use Rattle.ffv1_holding.proofs.SmallStates.{found_is_held, restored_of_holding}
use Rattle.ffv1_holding.proofs.small.notions_are_of_holdings.Goals as goal

pub returns-clause-found : goal.returns-clause-found
returns-clause-found c = found_is_held

pub returns-clause-restored : goal.returns-clause-restored
returns-clause-restored c = restored_of_holding

pub returns-clause-original : goal.returns-clause-original
returns-clause-original c = original_of_rules

pub returns-clause-copies : goal.returns-clause-copies
returns-clause-copies c = copies_of_rules
