use Rattle.std.proofs.Common.{inl, refl, subst}
use Rattle.std.proofs.lemmas.Result.{err_from_is_err_and}
use Rattle.ffv1_commands.specs.Inner.Devices.{WritesNamed}
use Rattle.ffv1_commands.specs.declared.path.CommandPath.TheVariants as paths
use Rattle.ffv1_commands.proofs.MadeFiles.{then_printed}
use Rattle.ffv1_commands.proofs.NamedFiles.{named-untouched}
use Rattle.ffv1_commands.proofs.holdings.write_made.Goals as goal

pub returns-in_err-write_filed-clause-reported : goal.returns-in_err-write_filed-clause-reported
returns-in_err-write_filed-clause-reported g c =
    let p = err_from_is_err_and c.from_residual.result c.from_residual.ensures.1 in
    rw (p.1, p.2) (inl (c.in_err-write_filed.ensures.reported, refl))

pub returns : goal.returns
returns g c =
    let r = c.write_file.result in
    let wrote = subst (WritesNamed paths.StandardOutput r _ _) c.as_bytes.ensures.value c.write_file.ensures.wrote in
    let (file, saved, written) = c.in_ok-write_filed.ensures.reported in
    record {
      reported = then_printed _ _ _ _ _ _ r file saved written wrote;
      untouched = named-untouched paths.StandardOutput _ _ _ _ r wrote;
    }
