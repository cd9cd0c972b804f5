use Rattle.std.proofs.Common.{refl, inr}
use Rattle.std.proofs.lemmas.Result.{err_from_is_err_and}
use Rattle.ffv1_holding.specs.declared.recordings.Recordings.TheVariants.{Any}
use Rattle.ffv1_player.specs.Shown.{ShowsHolding}
use Rattle.ffv1_commands.specs.AnyPictureText.{shown_samples, shown_lines, IsWholeShown}
use Rattle.ffv1_commands.proofs.PictureSteps.{showing_reported}
use Rattle.ffv1_commands.proofs.any_picture.any_picture_of.Goals as goal

pub returns-in_err-shown-clause-reported : goal.returns-in_err-shown-clause-reported
returns-in_err-shown-clause-reported g c =
    let p = err_from_is_err_and c.from_residual-in_err-shown.result c.from_residual-in_err-shown.ensures.1 in
    rw (p.1, p.2) (inr (c.in_ok-holding.holding, c.in_ok-holding.ensures.read, (refl, refl)))

pub returns-clause-reported : goal.returns-clause-reported
returns-clause-reported g c =
    showing_reported Any ShowsHolding shown_samples shown_lines IsWholeShown _ _ _ _ _ _ c.in_ok-holding.holding c.in_ok-holding.ensures.read
    c.in_ok-shown.shown c.in_ok-shown.ensures.shown c.write_picture.result c.write_picture.ensures.ok c.write_picture.ensures.err
