use Rattle.std.proofs.Common.{◌≡◌, ◌+◌, ◌-◌, subst, [], ◌∷◌, ◌++◌, arith}
use Rattle.std.proofs.lemmas.Result.{err_from_is_err_and}
use Rattle.ffv1_range.specs.TableForms.{contexts_deltas}
use Rattle.ffv1_range.specs.declared.fault.SetupFault.TheVariants.{Range}
use Rattle.ffv1_range.proofs.Forms.{Continues, continue_start, is_at_place, at_ok}
use Rattle.ffv1_range.proofs.DeltaSteps.{contexts_turn, contexts_fails, contexts_end}
use Rattle.ffv1_range.proofs.deltas.drop_states.Goals as goal

pub loop-init : goal.loop-init
loop-init c =
    let whole : c.args.contexts ≡ c.args.contexts - 0 = omega arith in (
      [],
      subst (λ n. Continues Range (contexts_deltas c.args.contexts []) c.args.decoder.now c.args.rows.now (contexts_deltas n []) c.args.decoder.now c.args.rows.now)
          whole (continue_start Range (contexts_deltas c.args.contexts []) c.args.decoder.now c.args.rows.now),
      is_at_place c.args.decoder.now c.requires,
    )

pub returns-in_err-read_context_deltas : goal.returns-in_err-read_context_deltas
returns-in_err-read_context_deltas c =
    let p = err_from_is_err_and c.from_residual.result c.from_residual.ensures.1 in
    rw (p.1, p.2)
    (contexts_fails (contexts_deltas c.args.contexts []) (c.args.contexts - c.loop.counter)
    (c.args.contexts - (c.loop.counter + 1)) c.loop.invariant.0 c.in_err-read_context_deltas.field-0.0
    c.args.decoder.now c.loop.decoder c.read_context_deltas.new.decoder c.args.rows.now c.loop.rows c.read_context_deltas.new.rows (omega arith)
    c.loop.invariant.1 c.in_err-read_context_deltas.ensures)

pub loop-preserved : goal.loop-preserved
loop-preserved c = (
  c.loop.invariant.0 ++ c.in_ok-read_context_deltas.field-0 ∷ [],
  contexts_turn (contexts_deltas c.args.contexts []) (c.args.contexts - c.loop.counter) (c.args.contexts - (c.loop.counter + 1)) c.loop.invariant.0
      c.in_ok-read_context_deltas.field-0 c.args.decoder.now
      c.loop.decoder c.read_context_deltas.new.decoder c.args.rows.now c.loop.rows c.read_context_deltas.new.rows (omega arith) c.loop.invariant.1
      c.in_ok-read_context_deltas.ensures,
  (
    c.in_ok-read_context_deltas.ensures.0,
    at_ok c.loop.decoder c.read_context_deltas.new.decoder c.in_ok-read_context_deltas.ensures.0 c.in_ok-read_context_deltas.ensures.2,
  ),
)

pub returns : goal.returns
returns c = (
  c.loop.invariant.0,
  contexts_end (contexts_deltas c.args.contexts []) (c.args.contexts - c.loop.counter) c.loop.invariant.0 c.args.decoder.now c.loop.decoder c.args.rows.now
      c.loop.rows
      (omega arith)
      c.loop.invariant.2 c.loop.invariant.1,
  tt,
)
