use Rattle.std.proofs.Common.{refl, sym, ap, ◌∙◌, inr}
use Rattle.std.proofs.lemmas.Result.{err_from_is_err_and}
use Rattle.ffv1_commands.specs.Fault.{of_restore}
use Rattle.ffv1_commands.specs.RestoreText.{restored_line}
use Rattle.ffv1_commands.proofs.InputFaults.{IsUnwritten, kept_both, untouched_both}
use Rattle.ffv1_commands.proofs.RestoreSteps.{of_restore-says, refused_at, restored}
use Rattle.ffv1_commands.proofs.WrittenBoth.{both_untouched}
use Rattle.ffv1_commands.proofs.restore.restore_of.Goals as goal

pub returns-in_err-payload : goal.returns-in_err-payload
returns-in_err-payload g c =
    let p = err_from_is_err_and c.from_residual-in_err-payload.result c.from_residual-in_err-payload.ensures.1 in
    let f = c.in_err-payload.field-0.0 in
    let refused = refused_at c.in_ok-holding.holding (g.O.Sink.log c.args.out.now) (g.W.Sink.log c.args.output.now) f c.in_err-payload.ensures.refused in
    let none = of_restore-says IsUnwritten f (λ tile. tt) (λ tile. tt) tt in
    rw (p.1, p.2) (record {
      reported = inr (c.in_ok-holding.holding, c.in_ok-holding.ensures.read, refused);
      untouched = untouched_both c.args.out.now c.args.output.now (of_restore f) none;
    })

pub returns-in_err-line : goal.returns-in_err-line
returns-in_err-line g c =
    let p = err_from_is_err_and c.from_residual-in_err-line.result c.from_residual-in_err-line.ensures.1 in
    let kept = kept_both c.args.out.now c.args.output.now in
    rw (p.1, p.2) (record { reported = inr (c.in_ok-holding.holding, c.in_ok-holding.ensures.read, (c.in_ok-payload.ensures.settled, (refl, refl))); untouched = kept })

pub returns : goal.returns
returns g c =
    let payload = c.as_slice.result.now in
    let line = c.as_str.result.now in
    let wrote = c.as_slice.ensures.value ∙ c.in_ok-payload.ensures.ok in
    let reported = c.as_str.ensures.value ∙ c.in_ok-line.ensures ∙ ap restored_line (c.len.ensures ∙ sym c.as_slice.ensures.len) in
    record {
      reported = restored _ _ _ _ _ _ _ c.in_ok-holding.holding payload line c.in_ok-holding.ensures.read c.in_ok-payload.ensures.settled wrote reported
          c.write_both.result c.write_both.ensures;
      untouched = both_untouched payload line _ _ _ _ _ c.write_both.result c.write_both.ensures;
    }
