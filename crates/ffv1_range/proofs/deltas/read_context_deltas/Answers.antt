use Rattle.std.proofs.Common.{◌≡◌, ◌+◌, ◌-◌, ℕ, [], ◌∷◌, ◌++◌, set, take, Ok, arith, rules, sym, subst}
use Rattle.std.proofs.lemmas.List.{take_more_set, take_all}
use Rattle.std.proofs.lemmas.Result.{err_from_is_err_and}
use Rattle.std.proofs.lemmas.Int.{to_z-of_z}
use Rattle.ffv1_range.specs.Forms.{ReadsForm}
use Rattle.ffv1_range.specs.Transitions.{delta_byte}
use Rattle.ffv1_range.specs.TableForms.{context_deltas}
use Rattle.ffv1_range.specs.declared.fault.SetupFault.TheVariants.{Range}
use Rattle.ffv1_range.proofs.Forms.{Continues, at_ok}
use Rattle.ffv1_range.proofs.DeltaSteps.{context_turn, context_fails, context_end}
use Rattle.ffv1_range.proofs.deltas.read_context_deltas.Goals as goal

pub returns-in_err-delta : goal.returns-in_err-delta
returns-in_err-delta c =
    let p = err_from_is_err_and c.from_residual.result c.from_residual.ensures.1 in
    rw (p.1, p.2)
    (context_fails (context_deltas 32 0 []) (32 - c.loop-k.k) (31 - c.loop-k.k) c.loop-k.k (take c.loop-k.k c.loop-k.deltas) c.in_err-delta.field-0.0
    c.args.decoder.now c.loop-k.decoder
    c.read_delta.new.decoder c.args.rows.now c.loop-k.rows c.read_delta.new.rows (omega arith) c.loop-k.invariant.going c.in_err-delta.ensures)

pub loop-k-preserved : goal.loop-k-preserved
loop-k-preserved c =
    let k = c.loop-k.k in
    let xs = c.loop-k.deltas in
    let a = c.delta_byte.result in
    let more : take (k + 1) (set xs k a) ≡ take k xs ++ a ∷ [] = take_more_set xs k a (omega (arith, c.loop-k.invariant.size)) in
    let is : a ≡ delta_byte c.in_ok-delta.delta = grind (arith, to_z-of_z, c.delta_byte.ensures) in
    let left : 31 - k ≡ 32 - (k + 1) = omega arith in
    record {
      going =
          subst (λ z. Continues Range (context_deltas 32 0 []) c.args.decoder.now c.args.rows.now
          (context_deltas (32 - (k + 1)) (k + 1) z) c.read_delta.new.decoder c.read_delta.new.rows) (sym more)
          (subst (λ n. Continues Range (context_deltas 32 0 []) c.args.decoder.now c.args.rows.now
          (context_deltas n (k + 1) (take k xs ++ a ∷ [])) c.read_delta.new.decoder c.read_delta.new.rows) left
          (subst (λ (b : ℕ). Continues Range (context_deltas 32 0 []) c.args.decoder.now c.args.rows.now
          (context_deltas (31 - k) (k + 1) (take k xs ++ b ∷ [])) c.read_delta.new.decoder c.read_delta.new.rows) (sym is)
          (context_turn (context_deltas 32 0 []) (32 - k) (31 - k) k (take k xs) c.in_ok-delta.delta c.args.decoder.now c.loop-k.decoder
          c.read_delta.new.decoder c.args.rows.now c.loop-k.rows c.read_delta.new.rows (omega arith) c.loop-k.invariant.going c.in_ok-delta.ensures)));
      size = search (rules, c.loop-k.invariant.size);
      alive = λ h. (c.in_ok-delta.ensures.0, at_ok c.loop-k.decoder c.read_delta.new.decoder c.in_ok-delta.ensures.0 c.in_ok-delta.ensures.2);
    }

pub returns : goal.returns
returns c =
    let all = take_all c.loop-k.k c.loop-k.deltas (omega (arith, c.loop-k.invariant.size)) in
    subst (λ z. ReadsForm Range (context_deltas 32 0 []) c.args.decoder.now c.args.rows.now (Ok z) c.loop-k.decoder c.loop-k.rows) all
    (context_end (context_deltas 32 0 []) (32 - c.loop-k.k) c.loop-k.k (take c.loop-k.k c.loop-k.deltas) c.args.decoder.now c.loop-k.decoder
    c.args.rows.now c.loop-k.rows (omega arith)
    (c.loop-k.invariant.alive (omega arith)) c.loop-k.invariant.going)
