use Rattle.std.proofs.Common.{rules, ap, ◌∙◌, [], get_or}
use Rattle.ffv1_bits.specs.declared.table.TheConstants.{REMAINDERS}
use Rattle.ffv1_bits.proofs.SixteenBytes.{tables_have}
use Rattle.ffv1_bits.proofs.table.moved_remainder.Goals as goal

pub returns : goal.returns
returns c = ap (λ i. get_or (get_or REMAINDERS c.args.more []) i 0) c.from.ensures ∙ tables_have c.args.more c.args.byte c.requires (search rules)
