use Rattle.std.proofs.Common.{refl, inl, inr, ◌∙◌, subst}
use Rattle.std.proofs.lemmas.Result.{err_from_is_err_and}
use Rattle.ffv1_commands.specs.Inner.Devices.{WritesNamed}
use Rattle.ffv1_commands.specs.declared.path.CommandPath.TheVariants as paths
use Rattle.ffv1_commands.proofs.HeldFiles.{unread_one}
use Rattle.ffv1_commands.proofs.NamedFiles.{named-untouched}
use Rattle.ffv1_commands.proofs.ReportSteps.{reported}
use Rattle.ffv1_commands.proofs.report.report_of.Goals as goal

pub returns-in_err-holding : goal.returns-in_err-holding
returns-in_err-holding g c =
    let p = err_from_is_err_and c.from_residual.result c.from_residual.ensures.1 in
    let stops = c.in_err-holding.ensures.read in
    rw (p.1, p.2) (record { reported = inl (stops, refl); untouched = unread_one _ _ _ c.args.output.now c.in_err-holding.field-0.0 stops })

pub returns-in_err-text : goal.returns-in_err-text
returns-in_err-text g c =
    let p = err_from_is_err_and c.from_residual-in_err-text.result c.from_residual-in_err-text.ensures.1 in
    rw (p.1, p.2) (record {
      reported = inr (c.in_ok-holding.holding, c.in_ok-holding.ensures.read, refl);
      untouched = refl {a = c.args.output.now};
    })

pub returns : goal.returns
returns g c =
    let r = c.write_file.result in
    let wrote = subst (WritesNamed paths.StandardOutput r _ _) (c.as_bytes.ensures.value ∙ c.in_ok-text.ensures) c.write_file.ensures.wrote in
    record {
      reported = reported _ _ _ _ _ c.in_ok-holding.holding c.in_ok-holding.ensures.read r wrote;
      untouched = named-untouched paths.StandardOutput _ _ _ _ r wrote;
    }
