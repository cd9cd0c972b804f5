use Rattle.std.proofs.Common.{refl, inl, subst}
use Rattle.std.proofs.lemmas.Result.{err_from_is_err_and}
use Rattle.ffv1_commands.specs.Inner.Devices.{WritesNamed}
use Rattle.ffv1_commands.specs.declared.path.CommandPath.TheVariants as paths
use Rattle.ffv1_commands.proofs.WrittenBoth.{then_text}
use Rattle.ffv1_commands.proofs.frames.write_shown.Goals as goal

pub returns-in_err-write_frame : goal.returns-in_err-write_frame
returns-in_err-write_frame g c =
    let p = err_from_is_err_and c.from_residual.result c.from_residual.ensures.1 in
    let (is, stopped) = c.in_err-write_frame.ensures in
    rw (p.1, p.2, is) (inl (refl, stopped, refl))

pub returns : goal.returns
returns g c = then_text _ _ _ _ _ _ c.write_file.result c.in_ok-write_frame.ensures
    (subst (WritesNamed paths.StandardOutput c.write_file.result _ _) c.as_bytes.ensures.value c.write_file.ensures.wrote)
