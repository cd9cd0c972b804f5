use Rattle.std.proofs.Common.{◌+◌, ◌-◌, ◌≡◌, ◌∙◌, arith, subst, ap}
use Rattle.std.proofs.lemmas.Result.{err_from_is_err_and}
use Rattle.ffv1_range.specs.Forms.{same_fault}
use Rattle.ffv1_range.specs.Reading.{exponent_form}
use Rattle.ffv1_range.proofs.Slots.{keeps-trans}
use Rattle.ffv1_range.proofs.Forms.{Continues, IsAtPlace, continue_start, at_ok}
use Rattle.ffv1_range.proofs.SymbolForms.{exponent_turn, exponent_found, exponent_fails, exponent_over}
use Rattle.ffv1_range.proofs.coding.RangeDecoder.exponent.Goals as goal

pub loop-exponent-init : goal.loop-exponent-init
loop-exponent-init c =
    let whole : c.args.limit ≡ c.args.limit - 0 = omega arith in
    record {
      going =
          subst (λ n. Continues same_fault (exponent_form c.args.limit 0) c.args.self.now c.args.states.now (exponent_form n 0) c.args.self.now
          c.args.states.now) whole (continue_start same_fault (exponent_form c.args.limit 0) c.args.self.now c.args.states.now);
      alive = λ h. absurd (omega arith);
      states = λ standard are. are;
    }

pub returns-in_err-slot-clause-read : goal.returns-in_err-slot-clause-read
returns-in_err-slot-clause-read c =
    let p = err_from_is_err_and c.from_residual.result c.from_residual.ensures.1 in
    rw (p.1, p.2)
    (exponent_fails c.args.limit (c.args.limit - c.loop-exponent.exponent) (c.args.limit - (c.loop-exponent.exponent + 1)) c.loop-exponent.exponent (1 + c.min.result) c.in_err-slot.field-0.0
    c.args.self.now c.loop-exponent.self c.slot.new.self c.args.states.now c.loop-exponent.states c.slot.new.states
    (omega arith) (ap (λ x. 1 + x) c.min.ensures) c.loop-exponent.invariant.going c.in_err-slot.ensures.read)

pub returns-then-not-branch-clause-read : goal.returns-then-not-branch-clause-read
returns-then-not-branch-clause-read c =
    exponent_found c.args.limit (c.args.limit - c.loop-exponent.exponent) (c.args.limit - (c.loop-exponent.exponent + 1)) c.loop-exponent.exponent (1 + c.min.result) c.in_ok-slot.field-0
    c.args.self.now c.loop-exponent.self c.slot.new.self c.args.states.now c.loop-exponent.states c.slot.new.states
    (omega arith) (ap (λ x. 1 + x) c.min.ensures) c.if-not-branch.true c.loop-exponent.invariant.going c.in_ok-slot.ensures.read

pub loop-exponent-preserved : goal.loop-exponent-preserved
loop-exponent-preserved c =
    record {
      going =
          exponent_turn c.args.limit (c.args.limit - c.loop-exponent.exponent) (c.args.limit - (c.loop-exponent.exponent + 1)) c.loop-exponent.exponent (1 + c.min.result) c.in_ok-slot.field-0
          c.args.self.now c.loop-exponent.self c.slot.new.self c.args.states.now c.loop-exponent.states c.slot.new.states
          (omega arith) (ap (λ x. 1 + x) c.min.ensures) c.if-not-branch.false c.loop-exponent.invariant.going c.in_ok-slot.ensures.read;
      alive = λ h. (c.in_ok-slot.ensures.read.0, at_ok c.loop-exponent.self c.slot.new.self c.in_ok-slot.ensures.read.0 c.in_ok-slot.ensures.read.2);
      states = keeps-trans c.args.self.now c.loop-exponent.self c.args.states.now c.loop-exponent.states c.slot.new.states c.loop-exponent.invariant.going.reader c.loop-exponent.invariant.states c.in_ok-slot.ensures.states;
    }

pub returns-clause-read : goal.returns-clause-read
returns-clause-read c =
    let alive : IsAtPlace c.loop-exponent.self = c.loop-exponent.invariant.alive (omega arith) in
    c.loop-exponent.invariant.going.same
    ∙ exponent_over (c.args.limit - c.loop-exponent.exponent) c.loop-exponent.exponent c.loop-exponent.self alive.0 c.loop-exponent.states (omega arith) alive.1

pub returns-in_err-slot-clause-states : goal.returns-in_err-slot-clause-states
returns-in_err-slot-clause-states c =
    keeps-trans c.args.self.now c.loop-exponent.self c.args.states.now c.loop-exponent.states c.slot.new.states c.loop-exponent.invariant.going.reader
    c.loop-exponent.invariant.states c.in_err-slot.ensures.states

pub returns-then-not-branch-clause-states : goal.returns-then-not-branch-clause-states
returns-then-not-branch-clause-states c =
    keeps-trans c.args.self.now c.loop-exponent.self c.args.states.now c.loop-exponent.states c.slot.new.states c.loop-exponent.invariant.going.reader
    c.loop-exponent.invariant.states c.in_ok-slot.ensures.states

pub returns-clause-states : goal.returns-clause-states
returns-clause-states c = c.loop-exponent.invariant.states
