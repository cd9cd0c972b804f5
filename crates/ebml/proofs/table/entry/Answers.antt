use Rattle.std.proofs.Common.{rules, ap, ◌∙◌, [], get_or}
use Rattle.ebml.specs.declared.table.TheConstants.{ENTRIES}
use Rattle.ebml.proofs.Turned.{entries_are}
use Rattle.ebml.proofs.table.entry.Goals as goal

pub returns : goal.returns
returns c = ap (λ i. get_or (get_or ENTRIES c.args.more []) i 0) c.from.ensures ∙ entries_are c.args.more c.args.byte c.requires (search rules)
