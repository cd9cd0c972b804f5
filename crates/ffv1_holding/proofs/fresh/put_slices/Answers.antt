use Rattle.std.proofs.Common.{◌≡◌, map, ap, ◌∙◌, arith}
use Rattle.ffv1_holding.specs.Sets as set
use Rattle.ffv1_holding.specs.SliceOrder.{entry_cmp}
use Rattle.ffv1_holding.specs.Inner.PoolEntries.{entry_in}
use Rattle.ffv1_holding.specs.Inner.Fresh.{AreMoved, with_fresh}
use Rattle.ffv1_holding.proofs.PoolGrowth.{take-written, places_within, places_in_order, pool_grown, view_grown, moved_of}
use Rattle.ffv1_holding.proofs.fresh.put_slices.Goals as goal

moved : (c : goal.After-deref) → AreMoved c.args.from.now c.args.bytes.now.items c.move_slices.new.bytes.items
    c.args.fresh.now.items c.move_slices.new.fresh
moved c = moved_of _ _ _ _ _ _ c.deref_mut.ensures.value c.move_slices.ensures

-- the new entries as `spread` sees them
written : (c : goal.After-deref) → c.deref.result.now ≡ c.move_slices.new.fresh
written c =
    c.deref.ensures.value
    ∙ take-written c.move_slices.new.fresh c.args.fresh.now.items c.args.fresh.now.len (omega (arith, (moved c).long))

pub spread-requires-clause-places : goal.spread-requires-clause-places
spread-requires-clause-places c = rw (written c)
    (places_within c.args.bytes.now.items c.args.entries.now.items c.requires.pool c.args.from.now c.move_slices.new.bytes.items
    c.args.fresh.now.items c.move_slices.new.fresh c.requires.fresh (moved c))

pub spread-requires-clause-rising : goal.spread-requires-clause-rising
spread-requires-clause-rising c = rw (written c)
    (places_in_order c.args.bytes.now.items c.args.entries.now.items c.requires.pool c.args.from.now c.move_slices.new.bytes.items
    c.args.fresh.now.items c.move_slices.new.fresh c.requires.fresh (moved c))

moved_last : (c : goal.After-spread) → AreMoved c.args.from.now c.args.bytes.now.items c.move_slices.new.bytes.items
    c.args.fresh.now.items c.move_slices.new.fresh
moved_last c = moved_of _ _ _ _ _ _ c.deref_mut.ensures.value c.move_slices.ensures

entries : (c : goal.After-spread) → c.spread.new.items.items ≡ with_fresh c.move_slices.new.fresh c.args.entries.now.items
entries c = c.spread.ensures ∙ ap (λ fs. with_fresh fs c.args.entries.now.items) (c.deref.ensures.value
    ∙ take-written c.move_slices.new.fresh c.args.fresh.now.items c.args.fresh.now.len (omega (arith, (moved_last c).long)))

pub returns-clause-pool : goal.returns-clause-pool
returns-clause-pool c = rw (entries c)
    (pool_grown c.args.bytes.now.items c.args.entries.now.items c.requires.pool c.args.from.now c.move_slices.new.bytes.items
    c.args.fresh.now.items c.move_slices.new.fresh c.requires.fresh (moved_last c))

pub returns-clause-slices : goal.returns-clause-slices
returns-clause-slices c =
    ap (λ es. set.from_list {R = entry_cmp} (map (entry_in c.move_slices.new.bytes.items) es)) (entries c)
    ∙ view_grown c.args.bytes.now.items c.args.entries.now.items c.requires.pool c.args.from.now c.move_slices.new.bytes.items
    c.args.fresh.now.items c.move_slices.new.fresh c.requires.fresh (moved_last c)
