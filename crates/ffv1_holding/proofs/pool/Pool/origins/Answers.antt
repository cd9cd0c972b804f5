use Rattle.std.proofs.Common.{◌≡◌, ◌<◌, ℕ, List, length, map, get_or, sym, ap, ◌∙◌, arith}
use Rattle.std.proofs.lemmas.List.{length-map, get_or-map}
use Rattle.ffv1_holding.specs.Sets as set
use Rattle.ffv1_holding.specs.SliceOrder.{Entry, entry_cmp, entries_total}
use Rattle.ffv1_holding.specs.Inner.TileSets.{TileSlices}
use Rattle.ffv1_holding.specs.TileSets.{digests_in}
use Rattle.ffv1_holding.specs.Inner.PoolEntries.{entry_in}
use Rattle.ffv1_holding.specs.Inner.Rows.{rows_in}
use Rattle.ffv1_holding.specs.declared.pool_entry.PoolEntry.{PoolEntry}
use Rattle.ffv1_holding.proofs.RisingSets.{contains_placed, contains_gap}
use Rattle.ffv1_holding.proofs.pool.Pool.origins.Goals as goal

pub returns-in-Ok-clause-digests : goal.returns-in-Ok-clause-digests
returns-in-Ok-clause-digests c =
    let kept = c.self.inside in
    let key : Entry = (c.args.tile, c.args.slice.now) in
    let at = c.in-Ok.ensures.found in
    let lt : c.in-Ok.place < length c.deref-2.result.now =
    omega (arith, at.in_range, length-map c.deref-2.result.now (entry_in c.deref.result.now)) in
    let listed : entry_in c.deref.result.now (get_or c.deref-2.result.now c.in-Ok.place c.index.result.now) ≡ key =
    sym (get_or-map (entry_in c.deref.result.now) c.deref-2.result.now c.in-Ok.place c.index.result.now key lt) ∙ at.is_there key in
    let entry : entry_in kept.bytes.items c.index.result.now ≡ key =
    ap (entry_in kept.bytes.items) c.index.ensures
    ∙ (λ i. entry_in (sym c.deref.ensures.value i) (get_or (sym c.deref-2.ensures.value i) c.in-Ok.place c.index.result.now)) ∙ listed in
    let origins = ap (λ (h : TileSlices). h.origins) c.self.view_is in
    let lent = c.lent-rows.ensures in
    let bytes = lent.bytes ∙ c.deref-in-Ok.ensures.value in
    c.digests_of.ensures.digests
    ∙ (λ i. digests_in (set.from_list (rows_in (bytes i) (lent.owners i) (lent.digests i))) (entry_in (bytes i) c.index.result.now))
    ∙ (λ i. digests_in (origins i) (entry i))

-- what the set that is shown contains is what the entries that were lent say
contains_lent : (key : Entry) (bytes lent_bytes : List ℕ) (es lent : List PoolEntry) → lent_bytes ≡ bytes → lent ≡ es → (shown : TileSlices)
    → set.from_list {R = entry_cmp} (map (entry_in bytes) es) ≡ shown.slices
    → set.contains shown.slices key ≡ set.contains (set.from_list {R = entry_cmp} (map (entry_in lent_bytes) lent)) key
contains_lent key bytes lent_bytes es lent same_bytes same shown is =
    ap (λ s. set.contains s key) (sym is ∙ (λ i. set.from_list (map (entry_in (sym same_bytes i)) (sym same i))))

pub returns-in-Ok-clause-held : goal.returns-in-Ok-clause-held
returns-in-Ok-clause-held c =
    contains_lent _ _ _ _ _ c.deref.ensures.value c.deref-2.ensures.value c.args.self.now (ap (λ (h : TileSlices). h.slices) c.self.view_is)
    ∙ contains_placed entries_total _ _ _ c.in-Ok.ensures.found

pub returns-in-Err-clause-absent : goal.returns-in-Err-clause-absent
returns-in-Err-clause-absent c =
    contains_lent _ _ _ _ _ c.deref.ensures.value c.deref-2.ensures.value c.args.self.now (ap (λ (h : TileSlices). h.slices) c.self.view_is)
    ∙ contains_gap entries_total _ _ _ c.in-Err.ensures.absent
