use Rattle.std.proofs.Common.{◌≡◌, rules}
use Rattle.std.specs.List.{dedup}
use Rattle.std.specs.List.Sorted.{IsSorted}
use Rattle.std.specs.Ordering.{eq_by_cmp, is_lt}
use Rattle.std.proofs.lemmas.Fn.{always_returns_same, dedup_same}
use Rattle.ffv1_holding.proofs.Staging.{cmp_in, strict_in, staged_same, staged_pool}
use Rattle.ffv1_holding.proofs.take.put_in_order.Goals as goal

sorted : (c : goal.After-dedup_by) → IsSorted (cmp_in c.args.bytes.now) c.sort_by.new.self.items
sorted c =
    let bytes = c.args.bytes.now in
    c.in_ok-sort_by.ensures.sorted (λ x y. is_lt (cmp_in bytes x y)) (strict_in bytes) (always_returns_same _ _ _ (λ a r g called. search rules))

kept : (c : goal.After-dedup_by) → c.dedup_by.new.self.items ≡ dedup (λ x y. eq_by_cmp (cmp_in c.args.bytes.now) x y) c.sort_by.new.self.items
kept c =
    let bytes = c.args.bytes.now in
    dedup_same _ (λ x y. eq_by_cmp (cmp_in bytes) x y) _ (λ x y b g v w called. search rules) c.sort_by.new.self.items c.dedup_by.new.self.items
    c.dedup_by.ensures.filtered

pub returns-clause-ok : goal.returns-clause-ok
returns-clause-ok c = rw (kept c)
    (staged_pool c.args.bytes.now c.args.entries.now.items c.sort_by.new.self.items c.in_ok-sort_by.ensures.permutation c.requires (sorted c))

pub returns-clause-same : goal.returns-clause-same
returns-clause-same c = rw (kept c) (staged_same c.args.bytes.now c.args.entries.now.items c.sort_by.new.self.items c.in_ok-sort_by.ensures.permutation)
