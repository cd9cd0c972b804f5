use Rattle.std.proofs.Common.{ℕ, List, Err, sym, ap, subst}
use Rattle.std.proofs.lemmas.Result.{err_from_is_err_and}
use Rattle.ffv1_holding.specs.Reels.{IsRecordingFor}
use Rattle.ffv1_holding.proofs.holding.Holding+Recording.of_record.Goals as goal

pub returns-in_err-reel-clause-only : goal.returns-in_err-reel-clause-only
returns-in_err-reel-clause-only c =
    λ r is.
    let p = err_from_is_err_and c.from_residual.result c.from_residual.ensures.1 in
    let own = c.in_err-reel.ensures.only r
    (subst (λ (bytes : List ℕ). IsRecordingFor c.args.recordings bytes c.args.width c.args.height r) (sym c.in-Ok.ensures.items) is) in
    rw (p.1, p.2) (ap Err own)
