use Rattle.std.proofs.Common.{ℕ, List, refl, subst}
use Rattle.std.proofs.lemmas.Result.{err_from_is_err_and}
use Rattle.ffv1_commands.specs.ChainText.{IsChainText}
use Rattle.ffv1_commands.proofs.ChainSteps.{payload_unread, payload_untouched}
use Rattle.ffv1_commands.proofs.chain.chain_of.Goals as goal

pub returns-in_err-payload : goal.returns-in_err-payload
returns-in_err-payload g c =
    let p = err_from_is_err_and c.from_residual.result c.from_residual.ensures.1 in
    let f = c.in_err-payload.field-0.0 in
    rw (p.1, p.2) (record {
      reported = payload_unread f (g.R.Source.log c.args.frame.now) (g.R.Source.log c.read_file.new.source) (g.W.Sink.log c.args.output.now)
          c.in_err-payload.ensures;
      untouched = payload_untouched f (g.R.Source.log c.args.frame.now) (g.R.Source.log c.read_file.new.source) c.args.output.now
          c.in_err-payload.ensures;
    })

pub returns-in_err-text : goal.returns-in_err-text
returns-in_err-text g c =
    let p = err_from_is_err_and c.from_residual-in_err-text.result c.from_residual-in_err-text.ensures.1 in
    let read = c.in_ok-payload.ensures in
    rw (p.1, p.2) (record { reported = ((c.in_ok-payload.payload.items, read.read, read.few), refl); untouched = refl {a = c.args.output.now} })

pub returns-in-Ok : goal.returns-in-Ok
returns-in-Ok g c =
    let (all, reported, wrote) = c.in-Ok.ensures in
    let of_payload = subst (λ (payload : List ℕ). IsChainText payload all) c.as_slice.ensures.value reported in
    record { reported = (c.in_ok-payload.payload.items, all, c.in_ok-payload.ensures, of_payload, wrote); untouched = tt }

pub returns : goal.returns
returns g c =
    let (all, reported, wrote) = c.in-Err.ensures in
    let of_payload = subst (λ (payload : List ℕ). IsChainText payload all) c.as_slice.ensures.value reported in
    record { reported = (refl, (c.in_ok-payload.payload.items, all, c.in_ok-payload.ensures, of_payload, wrote)); untouched = tt }
