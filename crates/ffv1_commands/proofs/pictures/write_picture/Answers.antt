use Rattle.std.proofs.Common.{◌≡◌, inr, refl, subst, ◌∙◌}
use Rattle.std.proofs.lemmas.Result.{err_from_is_err_and}
use Rattle.ffv1_devices.specs.Logs.{StopsWriting}
use Rattle.ffv1_commands.specs.declared.fault.CliFault.TheVariants as faults
use Rattle.ffv1_commands.specs.declared.path.CommandPath.TheVariants as paths
use Rattle.ffv1_commands.proofs.pictures.write_picture.Goals as goal

pub returns-in_err-write_file-clause-err : goal.returns-in_err-write_file-clause-err
returns-in_err-write_file-clause-err g c =
    let p = err_from_is_err_and c.from_residual-in_err-write_file.result c.from_residual-in_err-write_file.ensures.1 in
    let named : c.in_err-write_file.field-0.0 ≡ faults.Write paths.StandardOutput = c.in_err-write_file.ensures.wrote.0 in
    let text = c.as_bytes.ensures.value ∙ c.in_ok-text.ensures in
    rw (p.1, p.2, named) (inr (refl, c.in_ok-write.ensures, subst (StopsWriting _ _) text c.in_err-write_file.ensures.wrote.1))
