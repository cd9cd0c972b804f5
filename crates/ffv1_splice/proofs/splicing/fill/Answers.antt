use Rattle.std.proofs.lemmas.Grind.{common_steps}
use Rattle.ffv1_splice.proofs.Common.{◌≡◌, ℕ, ◌+◌, ◌-◌, ◌≤◌, List, ◌++◌, length, drop, sym, ap, ◌∙◌, subst, arith, All, reverse, append_assoc, length-range, AllReach, versions_at, SplicedValue, IsWalkUp, IsWalkAcross, IsDivisionOf, moved_by, undivided_places, Place, values_of, each_value}
use Rattle.std.specs.Prelude.{map}
use Rattle.ffv1_splice.proofs.Versions.{version_length, length_of}
use Rattle.ffv1_splice.proofs.FillSteps.{division_long, front_is, length-below, is_hole, hole_within, filled_splice}
use Rattle.ffv1_splice.proofs.splicing.fill.Goals as goal
use Rattle.ffv1_splice.proofs.splicing.fill.Goals.{then-start-eq0, else-start-eq0}

pub divide-requires-clause-long : goal.divide-requires-clause-long
divide-requires-clause-long c = λ k d lt.
    let copies : List (List ℕ) = values_of c.args.copies.now in
    let start : ℕ = c.in_ok-below.start in
    let end : ℕ = c.in_ok-above.end in
    let at = is_hole (values_of c.args.copies.now) c.settle_down.new.payload c.walk_up.new.payload c.in_ok-below.start c.bound_below-bound.result
    c.in_ok-above.end c.bound_below-bound.ensures c.in_ok-above.ensures.within c.in_ok-below.ensures.long c.in_ok-below.ensures.within in
    let order : start ≤ end = let low = at.low in let below = at.below in omega arith in
    let reach : AllReach copies end =
    each_value c.args.copies.now (λ copy. end ≤ length copy)
    (λ i e l. let long = c.requires.long i e l in let same = c.in_ok-above.ensures.long in let within = at.within in omega arith) in
    let is = ap values_of c.as_slice.ensures.value ∙ c.in_ok-versions.ensures in
    length_of (versions_at copies start end) (end - start) (version_length copies start end order reach) c.as_slice.result.now is k d lt
    ∙ sym (length-range (c.walk_up.new.payload ++ drop c.bound_below-bound.result c.settle_down.new.payload) start end order
    (length-below c.settle_down.new.payload c.walk_up.new.payload c.bound_below-bound.result end at.front at.below at.within))

pub push_moved-requires : goal.push_moved-requires
push_moved-requires c = λ k d lt.
    let at = is_hole (values_of c.args.copies.now) c.settle_down.new.payload c.walk_up.new.payload c.in_ok-below.start c.bound_below-bound.result
    c.in_ok-above.end c.bound_below-bound.ensures c.in_ok-above.ensures.within c.in_ok-below.ensures.long c.in_ok-below.ensures.within in
    let lies = hole_within c.args.copies.now c.args.payload.now _ _ c.in_ok-below.start _ c.in_ok-above.end c.in_ok-hole.hole.items c.in_ok-hole.front
    c.divide.new.payload _ at c.requires.long c.in_ok-above.ensures.long (ap values_of c.as_slice.ensures.value ∙ c.in_ok-versions.ensures) c.in_ok-hole.ensures in
    let here = subst (All (λ place. place.start ≤ place.end × c.in_ok-below.start + place.end ≤ c.in_ok-above.end)) (sym c.as_slice-2.ensures.value) lies.0 k d lt in
    (here.0, let inside = here.1 in omega arith)

pub push_undivided-requires : goal.push_undivided-requires
push_undivided-requires c =
    let at = is_hole (values_of c.args.copies.now) c.settle_down.new.payload c.walk_up.new.payload c.in_ok-below.start c.bound_below-bound.result
    c.in_ok-above.end c.bound_below-bound.ensures c.in_ok-above.ensures.within c.in_ok-below.ensures.long c.in_ok-below.ensures.within in
    let lies = hole_within c.args.copies.now c.args.payload.now _ _ c.in_ok-below.start _ c.in_ok-above.end c.in_ok-hole.hole.items c.in_ok-hole.front
    c.divide.new.payload _ at c.requires.long c.in_ok-above.ensures.long (ap values_of c.as_slice.ensures.value ∙ c.in_ok-versions.ensures) c.in_ok-hole.ensures in
    omega arith

pub returns : goal.returns
returns c =
    let copies : List (List ℕ) = values_of c.args.copies.now in
    let start : ℕ = c.in_ok-below.start in
    let end : ℕ = c.in_ok-above.end in
    let bound : ℕ = c.bound_below-bound.result in
    let down : List ℕ = c.settle_down.new.payload in
    let up : List ℕ = c.walk_up.new.payload in
    let hole : List Place = c.in_ok-hole.hole.items in
    let above : List Place = c.in_ok-above.above.items in
    let below : List Place = c.in_ok-below.below.items in
    let at = is_hole (values_of c.args.copies.now) c.settle_down.new.payload c.walk_up.new.payload c.in_ok-below.start c.bound_below-bound.result
    c.in_ok-above.end c.bound_below-bound.ensures c.in_ok-above.ensures.within c.in_ok-below.ensures.long c.in_ok-below.ensures.within in
    let order : start ≤ end = let low = at.low in let below = at.below in omega arith in
    let divided : SplicedValue = record { places = hole; front = c.in_ok-hole.front; payload = c.divide.new.payload } in
    let is : IsDivisionOf (versions_at copies start end) divided = grind (arith, common_steps, values_of) in
    let one = each_value c.args.copies.now (λ copy. length copy ≡ length c.args.payload.now) c.requires.long in
    let size = division_long copies start end (length c.args.payload.now) divided one order (omega (arith, c.in_ok-above.ensures.long)) is in
    let walk = c.in_ok-below.ensures.walk in
    let walk_up = subst (λ n. IsWalkUp copies n up 0 walk.0 walk.2) at.long walk.4 in
    let across = subst (λ n. IsWalkAcross copies n up walk.2 walk.1 start) at.long walk.5 in
    let moved : c.push_moved.new.places.items ≡ above ++ map (moved_by start) hole = grind (arith, common_steps, moved_by) in
    let more = undivided_places start c.in_ok-hole.front in
    let places = c.in_ok-push_fallen.ensures
    ∙ ap (λ z. (c.push_undivided.new.places.items) ++ reverse z) c.deref_mut.ensures.value
    ∙ ap (λ z. z ++ reverse below) (c.in_ok-push_undivided.ensures ∙ ap (λ z. z ++ more) moved)
    ∙ ap (λ z. z ++ reverse below) (append_assoc above (map (moved_by start) hole) more)
    ∙ append_assoc above (map (moved_by start) hole ++ more) (reverse below)
    ∙ ap (λ z. above ++ ((map (moved_by start) hole ++ more) ++ reverse z)) walk.3 in
    filled_splice down up c.divide.new.payload start bound end at.low at.below at.within at.front size copies above walk.0 hole walk.1 walk.2 c.in_ok-hole.front
    (λ copy there. one copy there ∙ sym c.in_ok-above.ensures.long) c.in_ok-above.ensures.walk c.bound_below-bound.ensures walk_up across is
    c.push_fallen.new.places.items c.if-start-eq0.result places (front_is start c.in_ok-hole.front c.if-start-eq0.result
    (λ here. elim c.if-start-eq0.branch [ then-start-eq0 w ↦ w.result-is | else-start-eq0 w ↦ absurd (omega (arith, w.if-start-eq0.false)) ])
    (λ apart. elim c.if-start-eq0.branch [ then-start-eq0 w ↦ absurd (apart (omega (arith, w.if-start-eq0.true))) | else-start-eq0 w ↦ w.result-is ]))
