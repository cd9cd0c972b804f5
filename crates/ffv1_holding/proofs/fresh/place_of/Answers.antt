use Rattle.std.proofs.Common.{rules}
use Rattle.std.proofs.lemmas.Fn.{always_returns_same}
use Rattle.ffv1_holding.specs.SliceOrder.{Entry, entry_cmp, entries_total, entries_antisymmetric}
use Rattle.ffv1_holding.specs.Inner.PoolEntries.{entry_in}
use Rattle.ffv1_holding.proofs.Searches.{searched}
use Rattle.ffv1_holding.proofs.fresh.place_of.Goals as goal

-- the closure compares an entry's tile and slice
pub returns : goal.returns
returns c =
    let facts = c.binary_search_by.ensures in
    let bytes = c.args.bytes.now in
    let key : Entry = (c.args.tile, c.args.slice.now) in
    let by_entry = facts.position (λ held. entry_cmp (entry_in bytes held) key) (always_returns_same _ _ _ (λ a r g called. search rules)) in
    searched entries_total (entry_in bytes) entries_antisymmetric c.args.entries.now key c.requires _ facts.bound by_entry
