use Rattle.std.proofs.Common.{subst, ◌∙◌}
use Rattle.std.proofs.lemmas.Result.{err_from_is_err_and}
use Rattle.ffv1_range.specs.SetupFaults.{FirstSetupFault}
use Rattle.ffv1_commands.specs.Inner.Devices.{WritesNamed}
use Rattle.ffv1_commands.specs.Fault.{of_setup}
use Rattle.ffv1_commands.specs.RecordInputs.{TakesSetup, RecordStops}
use Rattle.ffv1_commands.specs.ShowText.{show_text}
use Rattle.ffv1_commands.specs.declared.path.CommandPath.TheVariants as paths
use Rattle.ffv1_commands.proofs.RecordFaults.{record_taken, record_refused}
use Rattle.ffv1_commands.proofs.NamedFiles.{named-untouched}
use Rattle.ffv1_commands.proofs.RecordTexts.{record_breaks, text_printed}
use Rattle.ffv1_commands.proofs.show.show_of.Goals as goal

pub returns-in_err-setup-clause-reported : goal.returns-in_err-setup-clause-reported
returns-in_err-setup-clause-reported g c =
    let p = err_from_is_err_and c.from_residual-in_err-setup.result c.from_residual-in_err-setup.ensures.1 in
    let width = c.args.width in
    let height = c.args.height in
    rw (p.1, p.2) (record_breaks (TakesSetup width height _ _) (λ config fault. FirstSetupFault config width height fault) show_text
    _ _ (g.W.Sink.log c.args.output.now) (of_setup c.in_err-setup.field-0.0)
    (record_refused width height _ _ c.in_ok-config.config.items _ c.as_slice.ensures.value c.in_ok-config.ensures
    c.in_err-setup.field-0.0 c.in_err-setup.ensures.first))

pub returns : goal.returns
returns g c =
    let width = c.args.width in
    let height = c.args.height in
    let set = record_taken width height _ _ c.in_ok-config.config.items _ c.as_slice.ensures.value c.in_ok-config.ensures c.in_ok-setup.setup
    c.in_ok-setup.ensures.found in
    let r = c.write_file.result in
    let wrote = subst (WritesNamed paths.StandardOutput r _ _) (c.as_bytes.ensures.value ∙ c.in_ok-text.ensures) c.write_file.ensures.wrote in
    record {
      reported = text_printed (TakesSetup width height _ _) (RecordStops width height _ _) show_text _ _ c.in_ok-setup.setup set r wrote;
      untouched = named-untouched paths.StandardOutput _ _ _ _ r wrote;
    }
