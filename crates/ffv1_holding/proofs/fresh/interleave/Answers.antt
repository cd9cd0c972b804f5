use Rattle.std.proofs.Common.{◌≡◌, ℕ, ◌+◌, ◌-◌, ◌<◌, ◌≤◌, get_or, set, length, ap, subst, arith, ◌∙◌}
use Rattle.std.proofs.lemmas.List.{get_or_default}
use Rattle.ffv1_holding.proofs.Interleaves.{IsInterleaving, interleaving_starts, interleaving_ends, interleaving_goes}
use Rattle.ffv1_holding.proofs.fresh.interleave.Goals as goal

pub loop-before-init : goal.loop-before-init
loop-before-init g c = interleaving_starts c.args.items.now c.args.held c.args.fresh.now c.requires.room c.requires.places

pub loop-before-preserved : goal.loop-before-preserved
loop-before-preserved g c =
    let inv = c.loop-before.invariant in
    let fresh = c.args.fresh.now in
    let left = c.loop-before.left in
    let now = c.loop-before.items in
    let copied = c.copy_within.new.self in
    let b = c.loop-before.before - 1 in
    let lt : b < length fresh = omega (arith, c.loop-before-test.true, inv.few) in
    let f = get_or fresh b c.index-fresh-before.result in
    let item = ap (λ x. x.item) (get_or_default fresh b c.index-fresh-before.result c.index-fresh-before-in-loop-before.result lt) in
    subst (λ x. IsInterleaving c.args.items.now c.args.held fresh b f.place (set copied (f.place + b) x)) item
    (interleaving_goes c.args.items.now c.args.held fresh c.requires.room c.requires.places c.requires.rising b left now copied c.index-fresh-before.result
    (subst (λ n. IsInterleaving c.args.items.now c.args.held fresh n left now) {x = c.loop-before.before} {y = b + 1} (omega (arith, c.loop-before-test.true)) inv)
    c.copy_within.ensures.len c.copy_within.ensures.by_index)

pub returns : goal.returns
returns g c =
    interleaving_ends c.args.items.now c.args.held c.args.fresh.now c.requires.room c.requires.places c.loop-before.left c.loop-before.items
    (subst (λ n. IsInterleaving c.args.items.now c.args.held c.args.fresh.now n c.loop-before.left c.loop-before.items)
    {x = c.loop-before.before} {y = 0} (omega (arith, c.loop-before-test.false)) c.loop-before.invariant)

one_less : (n : ℕ) → 0 < n → n - 1 < n
one_less n some = omega arith

pub copy_within-requires-clause-start_le_end : goal.copy_within-requires-clause-start_le_end
copy_within-requires-clause-start_le_end g c =
    c.loop-before.invariant.places (c.loop-before.before - 1) c.index-fresh-before.result (one_less c.loop-before.before c.loop-before-test.true)

pub overflow_add-place : goal.overflow_add-place
overflow_add-place g c =
    omega (arith, copy_within-requires-clause-start_le_end g c, c.loop-before.invariant.within, c.loop-before.invariant.few, c.loop-before.invariant.long)

pub overflow_add-place-in-loop-before : goal.overflow_add-place-in-loop-before
overflow_add-place-in-loop-before g c =
    omega (arith, copy_within-requires-clause-start_le_end g c, c.loop-before.invariant.within, c.loop-before.invariant.few, c.loop-before.invariant.long)

within : (left held more long : ℕ) → left ≤ held → long ≡ held + more → left ≤ long
within left held more long le is = omega arith

pub copy_within-requires-clause-in_bounds : goal.copy_within-requires-clause-in_bounds
copy_within-requires-clause-in_bounds g c = within _ _ _ _ c.loop-before.invariant.within c.loop-before.invariant.long

-- the number of a new item that is still to come
below : (before count : ℕ) → 0 < before → before ≤ count → before - 1 < count
below before count some few = omega arith

pub bounds-fresh-before : goal.bounds-fresh-before
bounds-fresh-before g c = below _ _ c.loop-before-test.true c.loop-before.invariant.few

pub bounds-fresh-before-in-loop-before : goal.bounds-fresh-before-in-loop-before
bounds-fresh-before-in-loop-before g c = below _ _ c.loop-before-test.true c.loop-before.invariant.few

pub bounds-fresh-before-in-loop-before-2 : goal.bounds-fresh-before-in-loop-before-2
bounds-fresh-before-in-loop-before-2 g c = below _ _ c.loop-before-test.true c.loop-before.invariant.few

pub bounds-fresh-before-in-loop-before-3 : goal.bounds-fresh-before-in-loop-before-3
bounds-fresh-before-in-loop-before-3 g c = below _ _ c.loop-before-test.true c.loop-before.invariant.few

-- the items that move up by those still to come stay within what there is room for
moved_within : (place left held before count long : ℕ) → place ≤ left → left ≤ held → 0 < before → before ≤ count → long ≡ held + count
    → place + (before - 1) + 1 + (left - place) ≤ long
moved_within place left held before count long here within some few is = omega arith

pub copy_within-requires-clause-dest_in_bounds : goal.copy_within-requires-clause-dest_in_bounds
copy_within-requires-clause-dest_in_bounds g c =
    let inv = c.loop-before.invariant in
    moved_within _ _ _ _ _ _ (copy_within-requires-clause-start_le_end g c) inv.within c.loop-before-test.true inv.few inv.long

put_within : (place left held before count long : ℕ) → place ≤ left → left ≤ held → 0 < before → before ≤ count → long ≡ held + count
    → place + (before - 1) < long
put_within place left held before count long here within some few is = omega arith

pub bounds-items-place : goal.bounds-items-place
bounds-items-place g c =
    let inv = c.loop-before.invariant in
    put_within _ _ _ _ _ _ (inv.places (c.loop-before.before - 1) c.index-fresh-before.result (one_less c.loop-before.before c.loop-before-test.true))
    inv.within c.loop-before-test.true inv.few (c.copy_within.ensures.len ∙ inv.long)

pub copy_within-requires-clause-not_exhausted : goal.copy_within-requires-clause-not_exhausted
copy_within-requires-clause-not_exhausted g c = tt

pub loop-before-smaller : goal.loop-before-smaller
loop-before-smaller g c = one_less c.loop-before.before c.loop-before-test.true

pub overflow_sub-before : goal.overflow_sub-before
overflow_sub-before g c = c.loop-before-test.true
