use Rattle.std.proofs.Common.{sym, ap, ◌∙◌}
use Rattle.std.specs.Cmp.{Equal-is}
use Rattle.std.proofs.lemmas.List.{get_or_default}
use Rattle.ffv1_holding.specs.SliceOrder.{Entry, entry_cmp, entries_total, entries_antisymmetric}
use Rattle.ffv1_holding.specs.Inner.PoolEntries.{entry_in}
use Rattle.ffv1_holding.specs.declared.pool_entry.PoolEntry.{PoolEntry}
use Rattle.ffv1_holding.proofs.Searches.{place_found}
use Rattle.ffv1_holding.proofs.fresh.place_near.Goals as goal

pub returns-then-is_eq-clause-found : goal.returns-then-is_eq-clause-found
returns-then-is_eq-clause-found c =
    let bytes = c.args.bytes.now in
    let es = c.args.entries.now in
    let key : Entry = (c.args.tile, c.args.slice.now) in
    place_found entries_total (entry_in bytes) entries_antisymmetric es key c.args.near c.if-near-entries.true
    (λ d. ap (λ (e : PoolEntry). entry_cmp (entry_in bytes e) key) (get_or_default es c.args.near d _ c.if-near-entries.true) ∙ sym c.compare.ensures
    ∙ (Equal-is c.compare.result).0 (sym c.is_eq.ensures ∙ c.if-is_eq.true))
