use Rattle.std.proofs.Common.{◌+◌, ◌∷◌, length, sym, ap, ◌∙◌, arith}
use Rattle.ffv1_plane.specs.Inner.Orders.{lines_left}
use Rattle.ffv1_plane.proofs.Orders.{line_left, turn_over, none_left}
use Rattle.ffv1_plane.proofs.coded_order.CodedOrderIterator.next.Goals as goal

pub returns-then-self-turn_length-clause-steps : goal.returns-then-self-turn_length-clause-steps
returns-then-self-turn_length-clause-steps c =
    let o = c.loop-self.self in
    sym c.loop-self.invariant.left
    ∙ line_left o.is_rgb o.sizes.now o.turn o.within _ (omega (arith, c.loop-self-test.true, c.turns.ensures)) (omega (arith, c.if-self-turn_length.true, c.turn_length.ensures))
    ∙ ap (λ l. l ∷ lines_left (record { is_rgb = o.is_rgb; sizes = o.sizes; turn = o.turn; within = o.within + 1 })) (sym c.line-line.ensures)

pub returns-then-self-turn_length-clause-goes : goal.returns-then-self-turn_length-clause-goes
returns-then-self-turn_length-clause-goes c =
    let long = ap length (returns-then-self-turn_length-clause-steps c) in
    record { on = λ finite. (tt, tt, omega (arith, long)); keeps = tt; rests = λ finite. tt }

pub loop-self-preserved : goal.loop-self-preserved
loop-self-preserved c =
    let o = c.loop-self.self in
    record {
      left =
          sym (turn_over o.is_rgb o.sizes.now o.turn o.within _ (omega (arith, c.loop-self-test.true, c.turns.ensures))
          (omega (arith, c.if-self-turn_length.false, c.turn_length.ensures))) ∙ c.loop-self.invariant.left;
    }

pub returns-clause-steps : goal.returns-clause-steps
returns-clause-steps c =
    let o = c.loop-self.self in
    let none = none_left o.is_rgb o.sizes.now o.turn o.within _ (omega (arith, c.loop-self-test.false, c.turns.ensures)) in
    (sym c.loop-self.invariant.left ∙ none, none)
