use Rattle.ffv1_splice.proofs.Common.{ℕ, List, get_or, take, arith, subst, IsBound, values_of, next_value, all_values, nowhere}
use Rattle.ffv1_splice.proofs.BoundSteps.{bound_uncut, bound_failed, bound_stays, bound_lower}
use Rattle.ffv1_splice.proofs.settling.bound_below.Goals as goal
use Rattle.ffv1_splice.proofs.settling.bound_below.Goals.{in-Some+then-start-bound+then-passes, in-Some+else-start-bound, else-start-bound-via-then-start-bound+else-passes, else-start-bound-via-else-start-bound, in_default}

pub loop-copy-preserved : goal.loop-copy-preserved
loop-copy-preserved c =
    let copy : List ℕ = (get_or c.args.copies.now c.loop-copy.copy-index nowhere).now in
    let before : List (List ℕ) = take c.loop-copy.copy-index (values_of c.args.copies.now) in
    let end : ℕ = c.args.end in
    let bound : ℕ = c.loop-copy.bound in
    rw (← next_value c.args.copies.now c.loop-copy.copy-index nowhere (omega arith)) (elim c.match-claimed_start.branch [
      | in-Some+then-start-bound+then-passes w ↦
          rw w.bound-is (bound_lower before copy end bound w.in-Some.start w.in-Some.ensures.0 w.in-Some.ensures.1 (w.passes.ensures.0 w.if-passes.true)
          (omega (arith, w.if-start-bound.true)) c.loop-copy.invariant)
      | in-Some+else-start-bound w ↦
          rw w.bound-is (elim w.else-start-bound.branch [
            | else-start-bound-via-then-start-bound+else-passes v ↦
                bound_failed before copy end bound w.in-Some.start w.in-Some.ensures.0
                (λ p. let t = v.passes.ensures.1 p in let f = v.if-passes.false in absurd (cc)) c.loop-copy.invariant
            | else-start-bound-via-else-start-bound v ↦
                bound_stays before copy end bound w.in-Some.start w.in-Some.ensures.0 w.in-Some.ensures.1 (omega (arith, v.if-start-bound.false))
                c.loop-copy.invariant
          ])
      | in_default w ↦
          rw w.bound-is (bound_uncut before copy end bound w.in_default.ensures c.loop-copy.invariant)
    ])

pub returns : goal.returns
returns c =
    subst (λ z. IsBound z c.args.end c.loop-copy.bound) (all_values c.args.copies.now c.loop-copy.copy-index (omega arith)) c.loop-copy.invariant
