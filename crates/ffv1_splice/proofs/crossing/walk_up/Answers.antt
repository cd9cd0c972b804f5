use Rattle.std.proofs.lemmas.Grind.{common_steps}
use Rattle.ffv1_splice.proofs.Common.{◌≡◌, ◌+◌, ◌-◌, ◌++◌, ◌∷◌, ℕ, List, length, arith, sym, ◌∙◌, subst, inr, append_assoc, versions_at, IsWalkUp, IsCrossed, IsLostUpTo, Crossing, Place, values_of}
use Rattle.ffv1_splice.proofs.Crossings.{IsWalkSoFar, so_far_kept, walk_more, walk_stopped}
use Rattle.ffv1_splice.proofs.crossing.walk_up.Goals as goal

pub returns-in_default-clause-walk : goal.returns-in_default-clause-walk
returns-in_default-clause-walk c =
    let copies : List (List ℕ) = values_of c.args.copies.now in
    let bound : ℕ = length c.args.payload.now in
    let start : ℕ = c.loop.start in
    let same : length c.loop.payload ≡ bound = c.loop.invariant.long in
    let none : (end : ℕ) → IsLostUpTo (versions_at copies start (length c.loop.payload)) (length c.loop.payload - start) end → ⊥ =
    grind (arith, common_steps, versions_at) in
    walk_stopped copies bound c.place_across.new.payload c.loop.places.items start c.loop.counter
    (so_far_kept copies bound c.loop.payload c.place_across.new.payload c.loop.places.items start c.loop.counter (sym c.in_ok-place.ensures.before)
    c.loop.invariant.walk) (omega (arith, c.loop-test.true))
    (inr (subst (λ n. (end : ℕ) → IsLostUpTo (versions_at copies start n) (n - start) end → ⊥) same none))

pub loop-preserved : goal.loop-preserved
loop-preserved c =
    let copies : List (List ℕ) = values_of c.args.copies.now in
    let bound : ℕ = length c.args.payload.now in
    let start : ℕ = c.loop.start in
    let place : Place = c.in-Some.place in
    let same : length c.loop.payload ≡ bound = c.loop.invariant.long in
    let over : (place.start ≡ start) × IsCrossed copies (length c.loop.payload) c.place_across.new.payload place = grind (arith, common_steps, versions_at) in
    let long : length c.place_across.new.payload ≡ bound = c.in_ok-place.ensures.long ∙ same in
    let walk = c.in_ok-start-2.ensures.walk in
    let crossing : Crossing = record { over = place; settled = walk.0 } in
    let items : c.settle_up-in-loop.new.places.items ≡ c.loop.places.items ++ (place ∷ walk.0) = grind (arith, common_steps, append_assoc) in
    record {
      long = c.in_ok-start-2.ensures.long ∙ long;
      within = c.in_ok-start-2.ensures.within;
      walk = subst (λ places. IsWalkSoFar copies bound c.settle_up-in-loop.new.payload places c.in_ok-start-2.start (c.loop.counter + 1)) (sym items)
          (walk_more copies bound c.loop.payload c.place_across.new.payload c.settle_up-in-loop.new.payload c.loop.places.items start c.loop.counter
          crossing c.in_ok-start-2.start c.loop.invariant.walk over.0 (subst (λ n. IsCrossed copies n c.place_across.new.payload place) same over.1)
          c.in_ok-place.ensures.before c.in_ok-start-2.ensures.before
          (subst (λ n. IsWalkUp copies n c.settle_up-in-loop.new.payload place.end walk.0 c.in_ok-start-2.start) long walk.2));
    }
