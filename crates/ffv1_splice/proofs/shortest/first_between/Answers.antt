use Rattle.ffv1_splice.proofs.Common.{ℕ, ◌≤◌, List, length, get_or, take, arith, refl, Contains, values_of, next_value, all_values, value_there, each_value, nowhere}
use Rattle.ffv1_splice.proofs.ShortestSteps.{none_of_one, first_done, first_kept, first_more}
use Rattle.ffv1_splice.proofs.shortest.first_between.Goals as goal
use Rattle.ffv1_splice.proofs.shortest.first_between.Goals.{in-Some, in_default}

pub first_end-requires-clause-none : goal.first_end-requires-clause-none
first_end-requires-clause-none c =
    none_of_one (values_of c.args.copies.now) _ c.args.from c.args.start
    (value_there c.args.copies.now c.loop-copy.copy-index nowhere (omega arith)) c.requires.none

pub loop-copy-preserved : goal.loop-copy-preserved
loop-copy-preserved c =
    let copy : List ℕ = (get_or c.args.copies.now c.loop-copy.copy-index nowhere).now in
    let before : List (List ℕ) = take c.loop-copy.copy-index (values_of c.args.copies.now) in
    let there : Contains (values_of c.args.copies.now) copy = value_there c.args.copies.now c.loop-copy.copy-index nowhere (omega arith) in
    rw (← next_value c.args.copies.now c.loop-copy.copy-index nowhere (omega arith)) (elim c.match-first_end.branch [
      | in-Some w ↦
          let reach : c.args.bound ≤ length copy =
          each_value c.args.copies.now (λ value. c.args.bound ≤ length value) c.requires.room copy there in
          rw w.within-is (rw w.first-is
          (first_more before c.args.bound c.args.start c.args.from copy c.loop-copy.within w.in-Some.end c.loop-copy.first _ (omega arith)
          (none_of_one (values_of c.args.copies.now) copy c.args.from c.args.start there c.requires.none) refl w.in-Some.ensures
          c.loop-copy.invariant))
      | in_default w ↦
          rw w.within-is (rw w.first-is (first_kept before c.args.bound c.args.start c.args.from copy c.loop-copy.within c.loop-copy.first w.in_default.ensures
          c.loop-copy.invariant))
    ])

pub returns : goal.returns
returns c =
    first_done (values_of c.args.copies.now) c.args.bound c.args.start c.args.from c.loop-copy.within c.loop-copy.first
    (rw (← all_values c.args.copies.now c.loop-copy.copy-index (omega arith)) c.loop-copy.invariant)
