use Rattle.std.proofs.Common.{refl, inr}
use Rattle.std.proofs.lemmas.Result.{err_from_is_err_and}
use Rattle.ffv1_holding.specs.declared.recordings.Recordings.TheVariants.{Profile}
use Rattle.ffv1_picture.specs.PartialPictures.{IsPartialPicture}
use Rattle.ffv1_commands.specs.PictureText.{partial_samples, partial_lines, IsWholePartial}
use Rattle.ffv1_commands.proofs.PictureSteps.{showing_reported}
use Rattle.ffv1_commands.proofs.picture.picture_of.Goals as goal

pub returns-in_err-partial-clause-reported : goal.returns-in_err-partial-clause-reported
returns-in_err-partial-clause-reported g c =
    let p = err_from_is_err_and c.from_residual-in_err-partial.result c.from_residual-in_err-partial.ensures.1 in
    rw (p.1, p.2) (inr (c.in_ok-holding.holding, c.in_ok-holding.ensures.read, (refl, refl)))

pub returns-clause-reported : goal.returns-clause-reported
returns-clause-reported g c =
    showing_reported Profile IsPartialPicture partial_samples partial_lines IsWholePartial _ _ _ _ _ _ c.in_ok-holding.holding c.in_ok-holding.ensures.read
    c.in_ok-partial.partial c.in_ok-partial.ensures.partial c.write_picture.result c.write_picture.ensures.ok c.write_picture.ensures.err
