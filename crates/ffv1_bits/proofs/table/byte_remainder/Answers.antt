use Rattle.std.proofs.Common.{rules, ap, ◌∙◌, [], get_or}
use Rattle.ffv1_bits.specs.declared.table.TheConstants.{REMAINDERS}
use Rattle.ffv1_bits.proofs.Remainders.{table_has}
use Rattle.ffv1_bits.proofs.table.byte_remainder.Goals as goal

pub returns : goal.returns
returns c = ap (λ i. get_or (get_or REMAINDERS 0 []) i 0) c.from.ensures ∙ table_has c.args.byte (search rules)
