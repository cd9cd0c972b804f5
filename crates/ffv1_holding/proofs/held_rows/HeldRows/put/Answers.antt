use Rattle.std.proofs.Common.{◌≡◌, map, ap, ◌∙◌, arith}
use Rattle.ffv1_holding.specs.Sets as set
use Rattle.ffv1_holding.specs.SliceOrder.{entry_cmp, origin_cmp}
use Rattle.ffv1_holding.specs.Inner.PoolEntries.{entry_in}
use Rattle.ffv1_holding.specs.Inner.Fresh.{with_fresh}
use Rattle.ffv1_holding.specs.Inner.Rows.{rows_in, AreOwnersMoved}
use Rattle.ffv1_holding.proofs.PoolGrowth.{take-written}
use Rattle.ffv1_holding.proofs.RowGrowth.{owner_held, owners_within, owners_in_order, digests_within, digests_in_order, rows_grown, view_rows, settled_of}
use Rattle.ffv1_holding.proofs.held_rows.HeldRows.put.Goals as goal

pub settle-requires-clause-held : goal.settle-requires-clause-held
settle-requires-clause-held c =
    let held = set.from_list {R = entry_cmp} (map (entry_in c.args.bytes.now) c.args.entries.now) in
    rw c.deref_mut.ensures.value
    (owner_held held c.args.from.now c.args.fresh.now.owners.items c.args.fresh.now.digests.items c.requires.fresh.places c.requires.held)

settled : (c : goal.After-deref) → AreOwnersMoved c.args.from.now c.args.bytes.now c.args.fresh.now.owners.items c.settle.new.owners
settled c = settled_of _ _ _ _ _ c.deref_mut.ensures.value c.settle.ensures

-- the new owners as `spread` sees them
written : (c : goal.After-deref) → c.deref.result.now ≡ c.settle.new.owners
written c =
    c.deref.ensures.value
    ∙ take-written c.settle.new.owners c.args.fresh.now.owners.items c.args.fresh.now.owners.len (omega (arith, (settled c).long))

pub spread-requires-clause-places : goal.spread-requires-clause-places
spread-requires-clause-places c = rw (written c)
    (owners_within c.args.bytes.now c.args.self.now.owners.items c.args.self.now.digests.items c.requires.rows c.args.from.now
    c.args.fresh.now.owners.items
    c.settle.new.owners c.args.fresh.now.digests.items c.requires.fresh (settled c))

pub spread-requires-clause-rising : goal.spread-requires-clause-rising
spread-requires-clause-rising c = rw (written c)
    (owners_in_order c.args.bytes.now c.args.self.now.owners.items c.args.self.now.digests.items c.requires.rows c.args.from.now
    c.args.fresh.now.owners.items
    c.settle.new.owners c.args.fresh.now.digests.items c.requires.fresh (settled c))

settled_then : (c : goal.After-deref-2) → AreOwnersMoved c.args.from.now c.args.bytes.now c.args.fresh.now.owners.items c.settle.new.owners
settled_then c = settled_of _ _ _ _ _ c.deref_mut.ensures.value c.settle.ensures

pub spread-requires-2-clause-places : goal.spread-requires-2-clause-places
spread-requires-2-clause-places c = rw c.deref-2.ensures.value
    (digests_within c.args.bytes.now c.args.self.now.owners.items c.args.self.now.digests.items c.requires.rows c.args.from.now
    c.args.fresh.now.owners.items
    c.settle.new.owners c.args.fresh.now.digests.items c.requires.fresh (settled_then c))

pub spread-requires-2-clause-rising : goal.spread-requires-2-clause-rising
spread-requires-2-clause-rising c = rw c.deref-2.ensures.value
    (digests_in_order c.args.bytes.now c.args.self.now.owners.items c.args.self.now.digests.items c.requires.rows c.args.from.now
    c.args.fresh.now.owners.items
    c.settle.new.owners c.args.fresh.now.digests.items c.requires.fresh (settled_then c))

settled_last : (c : goal.After-spread-2) → AreOwnersMoved c.args.from.now c.args.bytes.now c.args.fresh.now.owners.items c.settle.new.owners
settled_last c = settled_of _ _ _ _ _ c.deref_mut.ensures.value c.settle.ensures

-- the new owners as `spread` sees them
written_last : (c : goal.After-spread-2) → c.deref.result.now ≡ c.settle.new.owners
written_last c =
    c.deref.ensures.value
    ∙ take-written c.settle.new.owners c.args.fresh.now.owners.items c.args.fresh.now.owners.len (omega (arith, (settled_last c).long))

owners : (c : goal.After-spread-2) → c.spread.new.items.items ≡ with_fresh c.settle.new.owners c.args.self.now.owners.items
owners c = c.spread.ensures ∙ ap (λ fs. with_fresh fs c.args.self.now.owners.items) (written_last c)

digests : (c : goal.After-spread-2) → c.spread-2.new.items.items ≡ with_fresh c.args.fresh.now.digests.items c.args.self.now.digests.items
digests c = c.spread-2.ensures ∙ ap (λ fs. with_fresh fs c.args.self.now.digests.items) c.deref-2.ensures.value

pub returns-clause-rows : goal.returns-clause-rows
returns-clause-rows c = rw (owners c, digests c)
    (rows_grown c.args.bytes.now c.args.self.now.owners.items c.args.self.now.digests.items c.requires.rows c.args.from.now
    c.args.fresh.now.owners.items
    c.settle.new.owners c.args.fresh.now.digests.items c.requires.fresh (settled_last c))

pub returns-clause-origins : goal.returns-clause-origins
returns-clause-origins c =
    (λ i. set.from_list {R = origin_cmp} (rows_in c.args.bytes.now (owners c i) (digests c i)))
    ∙ view_rows c.args.bytes.now c.args.self.now.owners.items c.args.self.now.digests.items c.requires.rows c.args.from.now
    c.args.fresh.now.owners.items
    c.settle.new.owners c.args.fresh.now.digests.items c.requires.fresh (settled_last c)
