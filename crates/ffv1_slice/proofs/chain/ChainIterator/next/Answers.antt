use Rattle.std.proofs.Common.{◌≤◌, length, ◌∷◌, arith, sym, ap, ◌∙◌, subst}
use Rattle.std.specs.Iterator.{YieldsFirst}
use Rattle.ffv1_slice.specs.Chain.{FooterGives, LinkValue}
use Rattle.ffv1_slice.specs.Chain.IsEnd.{before}
use Rattle.ffv1_slice.specs.Walk.{Walk, walked}
use Rattle.ffv1_slice.proofs.Links.{turn_none, turn_some, turn_fewer}
use Rattle.ffv1_slice.proofs.chain.ChainIterator.next.Goals as goal

pub returns-in_err-start-clause-steps : goal.returns-in_err-start-clause-steps
returns-in_err-start-clause-steps c =
    let none = turn_none c.args.self.now c.self.inside.payload.now c.self.inside.place c.self.view_is c.in_err-start.ensures.cut in
    subst (λ r. YieldsFirst {S = Walk} {A = LinkValue} (λ walk. walk.left) c.args.self.now r c.args.self.now) (sym c.from_residual.ensures) (none, none)

pub invariant_of-self : goal.invariant_of-self
invariant_of-self c =
    let cut : FooterGives c.self.inside.payload.now c.in_ok-start.start c.self.inside.place = c.in_ok-start.ensures.cut in
    let within : c.self.inside.place ≤ length c.self.inside.payload.now = c.self.invariant.1 in
    (before c.self.invariant.0 cut, omega arith)

pub returns-clause-steps : goal.returns-clause-steps
returns-clause-steps c =
    turn_some c.args.self.now c.self.inside.payload.now c.in_ok-start.start c.self.inside.place c.self.view_is c.in_ok-start.ensures.cut
    ∙ ap (λ x. x ∷ walked c.in_ok-start.start c.self.inside.payload.now c.in_ok-start.start) (sym c.cut-link.ensures)

pub returns-clause-goes : goal.returns-clause-goes
returns-clause-goes c =
    record {
      on = λ _. (tt, tt, turn_fewer c.args.self.now c.self.inside.payload.now c.in_ok-start.start c.self.inside.place c.self.view_is c.in_ok-start.ensures.cut);
      keeps = tt;
      rests = λ _. tt;
    }
