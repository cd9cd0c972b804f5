use Rattle.ffv1_holding.proofs.SmallLaws.{restores_original, same_found, same_restored}
use Rattle.ffv1_holding.proofs.SmallOriginals.{original_is_a_copy}
use Rattle.ffv1_holding.proofs.small.copies_restore_the_original.Goals as goal

pub returns-clause-original : goal.returns-clause-original
returns-clause-original c = restores_original

pub returns-clause-itself : goal.returns-clause-itself
returns-clause-itself c = original_is_a_copy

pub returns-clause-found : goal.returns-clause-found
returns-clause-found c = same_found

pub returns-clause-restored : goal.returns-clause-restored
returns-clause-restored c = same_restored
