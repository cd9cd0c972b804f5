use Rattle.ebml.proofs.ItemList.{known_by}
use Rattle.ebml.proofs.items.begins_known.Goals as goal

pub returns : goal.returns
returns c = known_by c.args.bytes.now c.from_be_bytes.result c.is_among.result c.in-len4-up.len_at_least c.from_be_bytes.ensures c.is_among.ensures
