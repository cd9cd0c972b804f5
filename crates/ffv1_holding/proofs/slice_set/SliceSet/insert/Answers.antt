use Rattle.std.proofs.Common.{◌≡◌, sym, ap, ◌∙◌, subst, arith, map, not}
use Rattle.ffv1_holding.specs.Sets as set
use Rattle.std.specs.List.{insert}
use Rattle.ffv1_holding.specs.Rising.{IsRising}
use Rattle.ffv1_holding.specs.Inner.Rising.{IsInsertionPlace}
use Rattle.ffv1_holding.specs.SliceOrder.{bytes_cmp, bytes_total, bytes_antisymmetric}
use Rattle.ffv1_holding.proofs.RisingSets.{size_kept, items_kept, size-items, contains_placed, contains_gap, rising_insert, from_list-insert, insert_present, map-insert}
use Rattle.ffv1_holding.proofs.slice_set.SliceSet.insert.Goals as goal

pub insert-requires : goal.insert-requires
insert-requires c =
    let gap = c.in-Err.ensures.absent in
    omega (arith, gap.in_range, size-items c.args.self.now, size_kept bytes_total (λ v. v.items) c.self.inside.slices.items _ c.self.invariant c.self.view_is)

-- the list that was searched is the set's
kept : (c : goal.In_ok-insert-in-Err) → set.items c.args.self.now ≡ map (λ v. v.items) c.self.inside.slices.items
kept c = items_kept bytes_total (λ v. v.items) c.self.inside.slices.items c.args.self.now c.self.invariant c.self.view_is

gap : (c : goal.In_ok-insert-in-Err) → IsInsertionPlace bytes_cmp (map (λ v. v.items) c.self.inside.slices.items) c.args.slice.now c.in-Err.place
gap c = rw (kept c) at c.in-Err.ensures.absent

-- the new list has the slice in its gap
placed : (c : goal.In_ok-insert-in-Err) → map (λ v. v.items) c.insert.new.self.items ≡ insert
    (map (λ v. v.items) c.self.inside.slices.items) c.in-Err.place c.args.slice.now
placed c =
    ap (map (λ v. v.items)) c.in_ok-insert-in-Err.ensures.items
    ∙ map-insert (λ v. v.items) c.self.inside.slices.items c.in-Err.place c.in_ok-owned-in-Err.owned
    ∙ ap (insert (map (λ v. v.items) c.self.inside.slices.items) c.in-Err.place) c.in_ok-owned-in-Err.ensures.items

pub invariant_of-self-in-Err : goal.invariant_of-self-in-Err
invariant_of-self-in-Err c = subst (IsRising bytes_cmp) (sym (placed c)) (rising_insert bytes_total _ _ _ c.self.invariant (gap c))

pub returns-in-Ok-clause-ok : goal.returns-in-Ok-clause-ok
returns-in-Ok-clause-ok c =
    let there = contains_placed bytes_total (set.items c.args.self.now) c.args.slice.now _ c.in-Ok.ensures.found in
    sym (insert_present bytes_total bytes_antisymmetric _ _ (ap (λ s. set.contains s c.args.slice.now)
    (sym (set.from_list-items bytes_total bytes_antisymmetric c.args.self.now)) ∙ there))

pub returns-in-Ok-clause-new : goal.returns-in-Ok-clause-new
returns-in-Ok-clause-new c =
    let there = contains_placed bytes_total (set.items c.args.self.now) c.args.slice.now _ c.in-Ok.ensures.found in
    ap not (sym (ap (λ s. set.contains s c.args.slice.now) (sym (set.from_list-items bytes_total bytes_antisymmetric c.args.self.now)) ∙ there))

pub returns-in_ok-insert-in-Err-clause-ok : goal.returns-in_ok-insert-in-Err-clause-ok
returns-in_ok-insert-in-Err-clause-ok c =
    ap set.from_list (placed c) ∙ from_list-insert bytes_total bytes_antisymmetric _ _ _ ∙ ap (λ s. set.insert s c.args.slice.now) c.self.view_is

pub returns-in_ok-insert-in-Err-clause-new : goal.returns-in_ok-insert-in-Err-clause-new
returns-in_ok-insert-in-Err-clause-new c =
    ap not (sym (ap (λ s. set.contains s c.args.slice.now) (sym c.self.view_is) ∙ contains_gap bytes_total _ _ _ (gap c)))
