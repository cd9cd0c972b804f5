use Rattle.std.proofs.Common.{subst, ◌∙◌}
use Rattle.std.proofs.lemmas.Result.{err_from_is_err_and}
use Rattle.ffv1_range.specs.SetupFaults.{FirstRecordingFault}
use Rattle.ffv1_commands.specs.Inner.Devices.{WritesNamed}
use Rattle.ffv1_commands.specs.Fault.{of_setup}
use Rattle.ffv1_commands.specs.RecordInputs.{TakesRecording, RecordingStops}
use Rattle.ffv1_commands.specs.SetupText.{setup_text}
use Rattle.ffv1_commands.specs.declared.path.CommandPath.TheVariants as paths
use Rattle.ffv1_commands.proofs.RecordFaults.{recording_taken, recording_refused}
use Rattle.ffv1_commands.proofs.NamedFiles.{named-untouched}
use Rattle.ffv1_commands.proofs.RecordTexts.{record_breaks, text_printed}
use Rattle.ffv1_commands.proofs.setup.setup_of.Goals as goal

pub returns-in_err-recording-clause-reported : goal.returns-in_err-recording-clause-reported
returns-in_err-recording-clause-reported g c =
    let p = err_from_is_err_and c.from_residual-in_err-recording.result c.from_residual-in_err-recording.ensures.1 in
    let width = c.args.width in
    let height = c.args.height in
    rw (p.1, p.2) (record_breaks (TakesRecording width height _ _) (λ config fault. FirstRecordingFault config width height fault) setup_text
    _ _ (g.W.Sink.log c.args.output.now) (of_setup c.in_err-recording.field-0.0)
    (recording_refused width height _ _ c.in_ok-config.config.items _ c.as_slice.ensures.value c.in_ok-config.ensures
    c.in_err-recording.field-0.0 c.in_err-recording.ensures.first))

pub returns : goal.returns
returns g c =
    let width = c.args.width in
    let height = c.args.height in
    let set = recording_taken width height _ _ c.in_ok-config.config.items _ c.as_slice.ensures.value c.in_ok-config.ensures c.in_ok-recording.recording
    c.in_ok-recording.ensures.found in
    let r = c.write_file.result in
    let wrote = subst (WritesNamed paths.StandardOutput r _ _) (c.as_bytes.ensures.value ∙ c.in_ok-text.ensures) c.write_file.ensures.wrote in
    record {
      reported = text_printed (TakesRecording width height _ _) (RecordingStops width height _ _) setup_text _ _ c.in_ok-recording.recording set r wrote;
      untouched = named-untouched paths.StandardOutput _ _ _ _ r wrote;
    }
