use Rattle.std.proofs.Common.{◌∙◌, Result, Ok, Err, IfOk, rules}
use Rattle.std.proofs.Common.{sym, ap}
use Rattle.ffv1_holding.specs.TileState.{missing, disputed}
use Rattle.ffv1_holding.specs.TileStates.{state_shown}
use Rattle.ffv1_holding.proofs.TileReads.{in_grid, passed, reel_shown}
use Rattle.ffv1_holding.proofs.Restored.{restored_original, never_unsettled}
use Rattle.ffv1_holding.proofs.ExactlyHeld.{near_exact}
use Rattle.ffv1_holding.proofs.SmallStates.{holding_restores, none_unsettled}
use Rattle.ffv1_holding.proofs.holding.Holding.restore.Goals as goal

-- what holds of the value in an `Ok` has consequences there
if_ok : {T E : Type 0} (r : Result T E) (P Q : T → Type 0) → IfOk r P → ((x : T) → P x → Q x) → IfOk r Q
if_ok (Ok x) P Q is leads = leads x is
if_ok (Err e) P Q is leads = is

pub returns-clause-original : goal.returns-clause-original
returns-clause-original g c payload slices original exact =
    if_ok c.joined_slices.result _ _ c.joined_slices.ensures.ok (λ restored is. is ∙ restored_original c.args.self.now slices exact payload (reel_shown c.self.inside c.self.invariant c.args.self.now c.self.view_is) original)

pub returns-in-Missing-clause-original_settled : goal.returns-in-Missing-clause-original_settled
returns-in-Missing-clause-original_settled g c payload slices original exact =
    absurd (never_unsettled c.args.self.now slices exact payload (reel_shown c.self.inside c.self.invariant c.args.self.now c.self.view_is) original c.loop-tile.tile
    (in_grid c.self.inside c.self.invariant c.args.self.now c.self.view_is c.loop-tile.tile _ c.loop-tile-test.true c.tiles-tile-end.ensures) missing
    (ap state_shown (sym c.in-Missing.is) ∙ c.state.ensures) (λ b e. cc))

pub returns-in-Disputed-clause-original_settled : goal.returns-in-Disputed-clause-original_settled
returns-in-Disputed-clause-original_settled g c payload slices original exact =
    absurd (never_unsettled c.args.self.now slices exact payload (reel_shown c.self.inside c.self.invariant c.args.self.now c.self.view_is) original c.loop-tile.tile
    (in_grid c.self.inside c.self.invariant c.args.self.now c.self.view_is c.loop-tile.tile _ c.loop-tile-test.true c.tiles-tile-end.ensures)
    (disputed c.in-Disputed.field-0) (ap state_shown (sym c.in-Disputed.is) ∙ c.state.ensures) (λ b e. cc))

pub returns-clause-near : goal.returns-clause-near
returns-clause-near g c payload slices copies near is =
    returns-clause-original g c payload slices near.is_original (near_exact c.args.self.now payload slices copies near is)

pub returns-in-Missing-clause-near_settled : goal.returns-in-Missing-clause-near_settled
returns-in-Missing-clause-near_settled g c payload slices copies near is =
    returns-in-Missing-clause-original_settled g c payload slices near.is_original (near_exact c.args.self.now payload slices copies near is)

pub returns-in-Disputed-clause-near_settled : goal.returns-in-Disputed-clause-near_settled
returns-in-Disputed-clause-near_settled g c payload slices copies near is =
    returns-in-Disputed-clause-original_settled g c payload slices near.is_original (near_exact c.args.self.now payload slices copies near is)

pub returns-in-Missing-clause-refused : goal.returns-in-Missing-clause-refused
returns-in-Missing-clause-refused g c = search rules

pub returns-clause-of_copies : goal.returns-clause-of_copies
returns-clause-of_copies g c copies same =
    if_ok c.joined_slices.result _ _ c.joined_slices.ensures.ok (λ payload is. holding_restores c.args.self.now copies same payload.items
    (λ t lt. c.loop-tile.invariant t (passed c.self.inside c.self.invariant c.args.self.now c.self.view_is t c.tiles-tile-end.result c.loop-tile.tile lt
    c.tiles-tile-end.ensures c.loop-tile-test.false))
    is)

pub returns-in-Missing-clause-of_copies_settled : goal.returns-in-Missing-clause-of_copies_settled
returns-in-Missing-clause-of_copies_settled g c copies payload same is =
    absurd (none_unsettled c.args.self.now copies same payload is c.loop-tile.tile
    (in_grid c.self.inside c.self.invariant c.args.self.now c.self.view_is c.loop-tile.tile _ c.loop-tile-test.true c.tiles-tile-end.ensures) missing
    (ap state_shown (sym c.in-Missing.is) ∙ c.state.ensures) (λ none. none))

pub returns-in-Disputed-clause-of_copies_settled : goal.returns-in-Disputed-clause-of_copies_settled
returns-in-Disputed-clause-of_copies_settled g c copies payload same is =
    absurd (none_unsettled c.args.self.now copies same payload is c.loop-tile.tile
    (in_grid c.self.inside c.self.invariant c.args.self.now c.self.view_is c.loop-tile.tile _ c.loop-tile-test.true c.tiles-tile-end.ensures)
    (disputed c.in-Disputed.field-0) (ap state_shown (sym c.in-Disputed.is) ∙ c.state.ensures) (λ none. none))
