use Rattle.std.proofs.Common.{◌<◌, ◌==◌, length, get_or, sym, ap, ◌∙◌, arith}
use Rattle.std.proofs.lemmas.List.{take_all}
use Rattle.std.proofs.lemmas.Bool.{ne_eqb}
use Rattle.std.specs.List.{filter}
use Rattle.ffv1_holding.specs.Sets as set
use Rattle.ffv1_holding.specs.TileStates.{state_shown}
use Rattle.ffv1_holding.specs.TileState.{status_of, state_of_best, settled}
use Rattle.ffv1_holding.specs.declared.standing.TileState.{TileState}
use Rattle.ffv1_holding.proofs.RisingSets.{size-items}
use Rattle.ffv1_holding.proofs.TileStatesOf.{state_none, passed_best, passed_other, few_disputed, filter-best, one_more}
use Rattle.ffv1_holding.proofs.standing.state.Goals as goal
use Rattle.ffv1_holding.proofs.standing.state.Goals.{then-status-least+in-Missing, then-status-least+in-Settled, then-status-least+in-Disputed, else-status-least}

pub returns-in_default : goal.returns-in_default
returns-in_default c = state_none (set.items c.args.slices.now) (ap length c.in_default.ensures)

pub overflow_add-found : goal.overflow_add-found
overflow_add-found c =
    let slices = set.items c.args.slices.now in
    let lt : c.loop-place.place < length slices = omega (arith, c.loop-place-test.true, c.len-place-end.ensures, size-items c.args.slices.now) in
    let few = few_disputed c.in-Some.least slices c.loop-place.place c.get-slice.result.now lt c.in-Disputed.slices (ap state_shown (sym c.in-Disputed.is)
    ∙ c.loop-place.invariant) in
    omega (arith, few, c.loop-place-test.true)

pub loop-place-preserved : goal.loop-place-preserved
loop-place-preserved c =
    let slices = set.items c.args.slices.now in
    let i = c.loop-place.place in
    let slice = c.get-slice.result.now in
    let lt : i < length slices = omega (arith, c.loop-place-test.true, c.len-place-end.ensures, size-items c.args.slices.now) in
    let here = c.status.ensures slice in
    let next = λ (f : TileState). one_more (state_shown f) (get_or slices i slice) in
    elim c.if-status-least.branch [
      | then-status-least+in-Missing w ↦ passed_best c.in-Some.least slices i slice lt _ _ c.loop-place.invariant (sym here ∙ w.if-status-least.true)
          (ap state_shown w.found-is ∙ ap settled c.get-slice.ensures.value ∙ ap next (sym w.in-Missing.is))
      | then-status-least+in-Settled w ↦ passed_best c.in-Some.least slices i slice lt _ _ c.loop-place.invariant (sym here ∙ w.if-status-least.true)
          (ap state_shown w.found-is ∙ ap next (sym w.in-Settled.is))
      | then-status-least+in-Disputed w ↦ passed_best c.in-Some.least slices i slice lt _ _ c.loop-place.invariant (sym here ∙ w.if-status-least.true)
          (ap state_shown w.found-is ∙ ap next (sym w.in-Disputed.is))
      | else-status-least w ↦ ap state_shown w.found-is ∙ passed_other c.in-Some.least slices i slice lt _ c.loop-place.invariant
          (ne_eqb _ _ (λ e. w.if-status-least.false (here ∙ e)))
    ]

pub returns : goal.returns
returns c =
    let slices = set.items c.args.slices.now in
    let long = size-items c.args.slices.now in
    let is = c.in-Some.ensures in
    c.loop-place.invariant ∙ ap (λ xs. state_of_best (filter (λ b. status_of b == c.in-Some.least) xs))
    (take_all c.loop-place.place slices (omega (arith, c.loop-place-test.false, c.len-place-end.ensures, long)))
    ∙ ap state_of_best (filter-best slices c.in-Some.least is.low is.at is.in_range is.met)
