use Rattle.std.proofs.Common.{◌≡◌, ◌+◌, ◌-◌, ℕ, [], ◌∷◌, ◌++◌, set, take, Ok, arith, rules, refl, sym, subst}
use Rattle.std.specs.Prelude.{replicate}
use Rattle.std.proofs.lemmas.List.{take_more_set, take_all}
use Rattle.std.proofs.lemmas.Result.{err_from_is_err_and}
use Rattle.ffv1_range.specs.Forms.{giving, ReadsForm}
use Rattle.std.proofs.lemmas.Int.{to_z-of_z}
use Rattle.ffv1_range.specs.Transitions.{delta_byte}
use Rattle.ffv1_range.specs.Fields.{deltas_onto}
use Rattle.ffv1_range.specs.declared.fault.SetupFault.TheVariants.{Range}
use Rattle.ffv1_range.proofs.Forms.{Continues, continue_start, continue_give, is_at_place, at_ok}
use Rattle.ffv1_range.proofs.TransitionSteps.{delta_turn, delta_fails, deltas_end, transition_deltas-coded, transition_deltas-none}
use Rattle.ffv1_range.proofs.fields.read_transition_deltas.Goals as goal

pub returns-then-coder-ne2 : goal.returns-then-coder-ne2
returns-then-coder-ne2 c =
    let at = is_at_place c.args.decoder.now c.requires in
    subst (λ f. ReadsForm Range f c.args.decoder.now c.args.states.now (Ok (replicate 255 0)) c.args.decoder.now c.args.states.now)
    (sym (transition_deltas-none c.args.coder c.if-coder-ne2.true))
    (continue_give Range c.args.decoder.now at.0 c.args.states.now (replicate 255 0) (giving (replicate 255 0)) at.1 refl)

pub loop-index-init : goal.loop-index-init
loop-index-init c = record {
  going = continue_start Range (deltas_onto 255 []) c.args.decoder.now c.args.states.now;
  size = search rules;
  alive = is_at_place c.args.decoder.now c.requires;
}

pub loop-index-preserved : goal.loop-index-preserved
loop-index-preserved c =
    let k = c.loop-index.index in
    let xs = c.loop-index.deltas in
    let a = c.delta_byte.result in
    let more : take (k + 1) (set xs k a) ≡ take k xs ++ a ∷ [] = take_more_set xs k a (omega (arith, c.loop-index.invariant.size)) in
    let is : a ≡ delta_byte c.in_ok-delta.delta = grind (arith, to_z-of_z, c.delta_byte.ensures) in
    let left : 254 - k ≡ 255 - (k + 1) = omega arith in
    record {
      going =
          subst (λ z. Continues Range (deltas_onto 255 []) c.args.decoder.now c.args.states.now
          (deltas_onto (255 - (k + 1)) z) c.signed.new.self c.signed.new.states) (sym more)
          (subst (λ n. Continues Range (deltas_onto 255 []) c.args.decoder.now c.args.states.now
          (deltas_onto n (take k xs ++ a ∷ [])) c.signed.new.self c.signed.new.states) left
          (subst (λ (b : ℕ). Continues Range (deltas_onto 255 []) c.args.decoder.now c.args.states.now
          (deltas_onto (254 - k) (take k xs ++ b ∷ [])) c.signed.new.self c.signed.new.states) (sym is)
          (delta_turn (deltas_onto 255 []) (255 - k) (254 - k) (take k xs) c.in_ok-delta.delta c.args.decoder.now c.loop-index.decoder c.signed.new.self
          c.args.states.now c.loop-index.states c.signed.new.states (omega arith) c.loop-index.invariant.going c.in_ok-delta.ensures.read)));
      size = search (rules, c.loop-index.invariant.size);
      alive = (c.in_ok-delta.ensures.read.0, at_ok c.loop-index.decoder c.signed.new.self c.in_ok-delta.ensures.read.0 c.in_ok-delta.ensures.read.2);
    }

pub returns-in_err-delta : goal.returns-in_err-delta
returns-in_err-delta c =
    let p = err_from_is_err_and c.from_residual.result c.from_residual.ensures.1 in
    rw (p.1, p.2, transition_deltas-coded c.args.coder c.if-coder-ne2.false)
    (delta_fails (deltas_onto 255 []) (255 - c.loop-index.index) (254 - c.loop-index.index) (take c.loop-index.index c.loop-index.deltas)
    c.in_err-delta.field-0.0 c.args.decoder.now c.loop-index.decoder c.signed.new.self c.args.states.now c.loop-index.states c.signed.new.states
    (omega arith) c.loop-index.invariant.going c.in_err-delta.ensures.read)

pub returns : goal.returns
returns c =
    let all = take_all c.loop-index.index c.loop-index.deltas (omega (arith, c.loop-index.invariant.size)) in
    subst (λ f. ReadsForm Range f c.args.decoder.now c.args.states.now (Ok c.loop-index.deltas) c.loop-index.decoder c.loop-index.states)
    (sym (transition_deltas-coded c.args.coder c.if-coder-ne2.false))
    (subst (λ z. ReadsForm Range (deltas_onto 255 []) c.args.decoder.now c.args.states.now (Ok z) c.loop-index.decoder c.loop-index.states) all
    (deltas_end (deltas_onto 255 []) (255 - c.loop-index.index) (take c.loop-index.index c.loop-index.deltas) c.args.decoder.now c.loop-index.decoder
    c.args.states.now c.loop-index.states (omega arith) c.loop-index.invariant.alive c.loop-index.invariant.going))
