use Rattle.std.proofs.Common.{arith, length}
use Rattle.ffv1_slice.specs.Chain.IsEnd.{last}
use Rattle.ffv1_slice.proofs.Links.{are_links, few}
use Rattle.ffv1_slice.proofs.chain.Chain.new.Goals as goal

pub invariant_of-result : goal.invariant_of-result
invariant_of-result c = (last, omega arith)

pub returns-clause-links : goal.returns-clause-links
returns-clause-links c = are_links c.args.payload.now

pub returns-clause-few : goal.returns-clause-few
returns-clause-few c = few c.args.payload.now (length c.args.payload.now) (length c.args.payload.now)
