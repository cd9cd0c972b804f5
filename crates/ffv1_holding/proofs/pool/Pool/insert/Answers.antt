use Rattle.std.proofs.Common.{◌≡◌, [], ◌∷◌, length, ap, ◌∙◌}
use Rattle.ffv1_holding.specs.Sets as set
use Rattle.ffv1_holding.specs.SliceOrder.{Entry, with_each}
use Rattle.ffv1_holding.specs.Inner.TileSets.{TileSlices}
use Rattle.ffv1_holding.specs.Inner.PoolEntries.{entry_in}
use Rattle.ffv1_holding.specs.Inner.Rows.{rows_in}
use Rattle.ffv1_holding.specs.declared.pool_entry.PoolEntry.{PoolEntry}
use Rattle.ffv1_holding.proofs.OneRows.{union_one, own_view, own_pool, own_listed, own_rows, OnOk-map}
use Rattle.ffv1_holding.proofs.OriginSteps.{held_one}
use Rattle.ffv1_holding.proofs.pool.Pool.insert.Goals as goal

pub insert_all-requires-clause-pool : goal.insert_all-requires-clause-pool
insert_all-requires-clause-pool c = own_pool c.args.tile c.args.slice.now c.requires.framed

pub insert_all-requires-clause-rows : goal.insert_all-requires-clause-rows
insert_all-requires-clause-rows c =
    rw (c.deref.ensures.value, c.in_ok-owners.ensures) (own_rows c.args.tile c.args.slice.now c.requires.framed c.args.digests.now c.requires.digests)

pub insert_all-requires-clause-held : goal.insert_all-requires-clause-held
insert_all-requires-clause-held c =
    let digests = c.args.digests.now in
    let slice = c.args.slice.now in
    rw (c.deref.ensures.value, c.in_ok-owners.ensures, own_listed c.args.tile slice c.requires.framed digests, own_view c.args.tile slice c.requires.framed)
    (held_one set.empty set.empty (c.args.tile, slice) digests)

pub returns-clause-ok : goal.returns-clause-ok
returns-clause-ok c =
    let digests = c.args.digests.now in
    let slice = c.args.slice.now in
    let key : Entry = (c.args.tile, slice) in
    let h = c.args.self.now in
    let own : PoolEntry = record { tile = c.args.tile; start = 0; length = length slice } in
    let slices : set.union h.slices (set.from_list (entry_in slice own ∷ [])) ≡ set.insert h.slices key =
    ap (λ e. set.union h.slices (set.from_list (e ∷ []))) (own_view c.args.tile slice c.requires.framed) ∙ union_one h.slices key in
    let rows : rows_in slice c.deref.result.now digests ≡ with_each key digests =
    ap (λ os. rows_in slice os digests) (c.deref.ensures.value ∙ c.in_ok-owners.ensures) ∙ own_listed c.args.tile slice c.requires.framed digests in
    OnOk-map c.insert_all.result _ _ c.insert_all.ensures.ok
    (λ is. is ∙ (λ i. let g : TileSlices = record { tiles = h.tiles; slices = slices i; origins = set.union h.origins (set.from_list (rows i)) } in g))
