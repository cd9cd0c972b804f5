use Rattle.std.proofs.lemmas.Grind.{common_steps}
use Rattle.std.proofs.Common.{arith, ◌∙◌, ap, map, refl, sym, subst, IfErr, rules, inl, inr}
use Rattle.std.proofs.lemmas.List.{length-map}
use mathlib.Core.List.{map-map}
use Rattle.std.proofs.KnownBytes.{Keeps-refl}
use Rattle.ffv1_devices.specs.Logs.{ReadLog, WriteLog}
use Rattle.ffv1_commands.specs.Devices.{IfOfRecord}
use Rattle.ffv1_commands.specs.Fault.{NamesPath}
use Rattle.ffv1_commands.specs.Paths.{IsTakePath}
use Rattle.ffv1_commands.specs.declared.fault.CliFault.TheVariants as faults
use Rattle.ffv1_commands.proofs.SamplesSteps.{samples_of_bytes, begins_of_inputs, begun_so}
use Rattle.ffv1_commands.proofs.Wrapped.{if_of_record}
use Rattle.ffv1_program.specs.Running.{bytes_of_all}
use Rattle.ffv1_program.proofs.Makes.{made_ok, made_err, made_unwritten, made_kept, made_says, later_err, made_begun}
use Rattle.ffv1_program.proofs.Equals.{is_fault}
use Rattle.ffv1_program.proofs.Lists.{none_given}
use Rattle.ffv1_program.proofs.Played.{played_as}
use Rattle.ffv1_program.proofs.Runs.{err_both, names_so}
use Rattle.ffv1_program.proofs.Unread.{samples_unread}
use Rattle.ffv1_program.proofs.Unwritten.{samples_unwritten}
use Rattle.ffv1_program.proofs.pictures.samples_files.Goals as goal

-- memory for the frames was refused, and nothing was written
pub returns-in_err-frames : goal.returns-in_err-frames
returns-in_err-frames g c recordings =
    rw (is_fault faults.Memory c.from_residual.result c.from_residual.ensures.1) (record {
      does = tt;
      stops = inr (inr (inl (inl (Keeps-refl _, Keeps-refl _))));
      keeps = (tt, inr (inl (refl, refl)));
      unread = tt;
      unwritten = tt;
      refuses = search rules;
      names = tt;
    })

-- there is no frame
pub returns-then-is_empty : goal.returns-then-is_empty
returns-then-is_empty g c recordings =
    record {
      does = tt;
      stops = inr (inl (none_given (g.F.FileSystem.files c.args.files.now).bytes_at c.args.frames.now.items (grind (arith, common_steps)), refl));
      keeps = (tt, inr (inl (refl, refl)));
      unread = tt;
      unwritten = tt;
      refuses = λ is. absurd (elim is [
        | inl same ↦ search (rules, same)
        | inr there ↦ (let among = c.is_among.ensures.1 (rw c.as_slice.ensures.value there) in let not = c.if-is_among.false in cc)
      ]);
      names = tt;
    }

pub returns : goal.returns
returns g c recordings =
    let clean = c.samples_of-clean.result in
    let inputs = map-map (λ (log : ReadLog). log.remaining) g.F.Device.Source.log c.as_mut_slice.result.now
    ∙ ap (map (λ source. (g.F.Device.Source.log source).remaining)) c.as_mut_slice.ensures.value ∙ c.in_ok-frames.ensures.bytes
    ∙ ap (bytes_of_all (g.F.FileSystem.files c.args.files.now).bytes_at) c.as_slice-2.ensures.value in
    let at = rw (c.as_slice-2.ensures.value, ← c.as_mut_slice.ensures.value) at c.in_ok-frames.ensures.at in
    let bytes = played_as clean c.args.recording.now.width c.args.recording.now.height
    _ ((g.F.FileSystem.files c.args.files.now).bytes_at c.args.recording.now.record.now) _ (bytes_of_all (g.F.FileSystem.files c.args.files.now).bytes_at c.args.frames.now.items)
    _ _ _ _ c.device.ensures.bytes inputs (samples_of_bytes _ _ _ _ _ _ _ _ _ _ clean c.samples_of-clean.ensures.reported) in
    let after = ap (λ (log : WriteLog). log.contents) c.make_after.ensures.log in
    let tries = ap (λ (log : WriteLog). log.tries) c.make_after.ensures.log in
    record {
      does = made_ok clean c.make_after.result _ _ c.make_after.ensures.ok (rw after bytes.ok);
      stops = later_err c.make_after.result _ _ _ _ (made_err clean c.make_after.result _ _ _ _ _ c.make_after.ensures.err
          (rw after bytes.ok) (rw after bytes.err));
      keeps = err_both c.make_after.result _ _
          (made_kept _ clean c.make_after.result c.args.made.now _ c.make_after.new.made _ IfOfRecord c.make_after.ensures.err (λ _. tt)
          (if_of_record _ _ clean (λ same. (same.1, same.2)) c.samples_of-clean.ensures.untouched))
          (made_begun _ clean c.make_after.result c.args.made.now _ c.make_after.new.made _ _ c.make_after.ensures.err
          (begun_so clean _ _ _ _ c.samples_of-clean.ensures.begun (λ same. same) (begins_of_inputs _ _ _ _ _ _ _ _ c.device.ensures.bytes inputs)));
      unread = made_says _ clean c.make_after.result _ _ c.make_after.ensures.err tt
          (samples_unread (g.F.FileSystem.files c.args.files.now).is_device_at g.F.Device.Source.log c.args.frames.now.items _ _ at _ c.device.result
          c.samples_of-clean.new.configuration c.device.ensures.at _ _ _ _ _ _ clean c.samples_of-clean.ensures.reported);
      unwritten = made_unwritten _ _ _ _ _ clean c.make_after.result c.make_after.ensures.err (λ lost. inr (inr (rw tries lost)))
          (λ failed. inr (inl failed)) (samples_unwritten _ _ _ _ _ _ _ _ _ _ clean c.samples_of-clean.ensures.reported);
      refuses = λ is. absurd (elim is [
        | inl same ↦ search (rules, same)
        | inr there ↦ (let among = c.is_among.ensures.1 (rw c.as_slice.ensures.value there) in let not = c.if-is_among.false in cc)
      ]);
      names = names_so (IsTakePath c.args.frames.now.len) _ c.make_after.result (λ path named. named) (made_says _ clean c.make_after.result _ _ c.make_after.ensures.err tt
          (subst (λ n. IfErr clean (NamesPath (IsTakePath n)))
          (length-map c.args.frames.now.items _ ∙ sym c.args.frames.now.ok.0) bytes.names));
    }
