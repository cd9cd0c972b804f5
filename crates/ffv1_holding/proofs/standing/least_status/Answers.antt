use Rattle.std.proofs.Common.{ℕ, List, [], ◌<◌, ◌+◌, length, sym, subst, arith}
use Rattle.ffv1_holding.specs.Sets as set
use Rattle.ffv1_holding.proofs.RisingSets.{size-items}
use Rattle.ffv1_holding.proofs.Leasts.{LeastOf, least_kept, least_replaced, least_first, ended}
use Rattle.ffv1_holding.proofs.standing.least_status.Goals as goal
use Rattle.ffv1_holding.proofs.standing.least_status.Goals.{in-Some, in_default-2, in_default}

pub loop-place-preserved : goal.loop-place-preserved
loop-place-preserved c =
    let slices = set.items c.args.slices.now in
    let i = c.loop-place.place in
    let slice : List ℕ = [] in
    let lt : i < length slices = omega (arith, c.loop-place-test.true, c.len-place-end.ensures, size-items c.args.slices.now) in
    let here = c.status-here.ensures [] in
    elim c.match-least.branch [
      | in-Some w ↦ subst (LeastOf slices (i + 1)) (sym w.least-is) (least_kept slices i slice lt w.in-Some.before
          (subst (LeastOf slices i) w.in-Some.is c.loop-place.invariant) (omega (arith, here, w.if-before-here.true)))
      | in_default-2 w ↦ subst (LeastOf slices (i + 1)) (sym w.least-is)
          (least_replaced slices i slice lt w.in-Some.before c.status-here.result
          (subst (LeastOf slices i) w.in-Some.is c.loop-place.invariant) w.if-before-here.false here)
      | in_default w ↦ subst (LeastOf slices (i + 1)) (sym w.least-is)
          (least_first slices i slice lt c.status-here.result (subst (LeastOf slices i) w.in_default.is c.loop-place.invariant) here)
    ]

pub returns : goal.returns
returns c =
    ended (set.items c.args.slices.now) c.loop-place.place c.loop-place.least
    (omega (arith, c.loop-place-test.false, c.len-place-end.ensures, size-items c.args.slices.now)) c.loop-place.invariant
    (omega (arith, c.loop-place.auto.place-end, c.len-place-end.ensures, size-items c.args.slices.now))
