use Rattle.ffv1_weave.proofs.Common.{◌≡◌, map, drop, changed}
use Rattle.ffv1_weave.proofs.changes.changed.Given as goal

-- The changes of the rest make of this register what all make of the first.
abbrev pub invariant-loop-changes : goal.invariant-loop-changes
invariant-loop-changes l =
    changed (map (λ changes. changes.items) (drop l.changes-index l.tables)) l.rest l.register ≡ changed (map (λ changes. changes.items) l.tables) l.code l.base
