use Rattle.std.proofs.lemmas.Result.{err_from_is_err_and}
use Rattle.ffv1_picture.proofs.decoder.Decoder.new.Goals as goal

pub returns-in_err-setup-clause-only : goal.returns-in_err-setup-clause-only
returns-in_err-setup-clause-only c =
    λ s is.
    let p = err_from_is_err_and c.from_residual.result c.from_residual.ensures.1 in
    rw (p.1, p.2) (c.in_err-setup.ensures.only s is)
