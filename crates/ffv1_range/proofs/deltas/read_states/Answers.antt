use Rattle.std.proofs.Common.{◌≡◌, ◌+◌, ◌-◌, subst, ℕ, List, [], ◌∷◌, ◌++◌, length, arith, refl, sym, ap, ◌∙◌}
use Rattle.std.proofs.lemmas.List.{length-append}
use Rattle.std.proofs.lemmas.Result.{err_from_is_err_and}
use Rattle.ffv1_range.specs.InitialStates.{initial_states}
use Rattle.ffv1_range.specs.TableForms.{contexts_deltas}
use Rattle.ffv1_range.specs.Inner.TableForms.{states_with}
use Rattle.ffv1_range.specs.declared.fault.SetupFault.TheVariants.{Range}
use Rattle.ffv1_range.proofs.Forms.{Continues, continue_start, is_at_place, at_ok}
use Rattle.ffv1_range.proofs.DeltaSteps.{contexts_turn, contexts_fails, contexts_end, context_states-nil, context_states-more, initial_states-nil, initial_states-more, length-initial_states}
use Rattle.ffv1_range.proofs.deltas.read_states.Goals as goal

pub loop-init : goal.loop-init
loop-init c =
    let whole : c.args.contexts ≡ c.args.contexts - 0 = omega arith in (
      [],
      subst (λ n. Continues Range (contexts_deltas c.args.contexts []) c.args.decoder.now c.args.rows.now (contexts_deltas n []) c.args.decoder.now c.args.rows.now)
          whole (continue_start Range (contexts_deltas c.args.contexts []) c.args.decoder.now c.args.rows.now),
      is_at_place c.args.decoder.now c.requires.alive,
      refl,
      sym context_states-nil,
      c.requires.empty ∙ sym initial_states-nil,
      refl,
    )

pub returns-in_err-deltas : goal.returns-in_err-deltas
returns-in_err-deltas c =
    let p = err_from_is_err_and c.from_residual.result c.from_residual.ensures.1 in
    rw (p.1, p.2)
    (contexts_fails (contexts_deltas c.args.contexts []) (c.args.contexts - c.loop.counter)
    (c.args.contexts - (c.loop.counter + 1)) c.loop.invariant.0 c.in_err-deltas.field-0.0
    c.args.decoder.now c.loop.decoder c.read_context_deltas.new.decoder c.args.rows.now c.loop.rows c.read_context_deltas.new.rows (omega arith)
    c.loop.invariant.1 c.in_err-deltas.ensures)

pub push_reserved-requires : goal.push_reserved-requires
push_reserved-requires c =
    let size = ap length c.loop.invariant.5 ∙ length-initial_states c.loop.invariant.0 ∙ c.loop.invariant.3 in
    omega (arith, size, c.loop.invariant.6, c.requires.room)

pub loop-preserved : goal.loop-preserved
loop-preserved c =
    let done : List (List ℕ) = c.loop.invariant.0 in
    let more : List (List ℕ) = done ++ c.in_ok-deltas.deltas ∷ [] in
    let last = c.states_with-last.ensures ∙ ap (λ z. states_with z c.in_ok-deltas.deltas) c.loop.invariant.4 ∙ sym (context_states-more done c.in_ok-deltas.deltas) in (
      more,
      contexts_turn (contexts_deltas c.args.contexts []) (c.args.contexts - c.loop.counter) (c.args.contexts - (c.loop.counter + 1)) done
          c.in_ok-deltas.deltas c.args.decoder.now
          c.loop.decoder c.read_context_deltas.new.decoder c.args.rows.now c.loop.rows c.read_context_deltas.new.rows (omega arith) c.loop.invariant.1
          c.in_ok-deltas.ensures,
      (
        c.in_ok-deltas.ensures.0,
        at_ok c.loop.decoder c.read_context_deltas.new.decoder c.in_ok-deltas.ensures.0 c.in_ok-deltas.ensures.2,
      ),
      length-append done (c.in_ok-deltas.deltas ∷ []) ∙ ap (λ n. n + 1) c.loop.invariant.3,
      last,
      c.push_reserved.ensures.items ∙ ap (λ z. z ++ c.states_with-last.result ∷ []) c.loop.invariant.5
          ∙ ap (λ z. initial_states done ++ z ∷ []) last ∙ sym (initial_states-more done c.in_ok-deltas.deltas),
      c.push_reserved.ensures.capacity ∙ c.loop.invariant.6,
    )

pub returns : goal.returns
returns c = (
  c.loop.invariant.0,
  contexts_end (contexts_deltas c.args.contexts []) (c.args.contexts - c.loop.counter) c.loop.invariant.0 c.args.decoder.now c.loop.decoder c.args.rows.now
      c.loop.rows
      (omega arith)
      c.loop.invariant.2 c.loop.invariant.1,
  c.loop.invariant.5,
)
