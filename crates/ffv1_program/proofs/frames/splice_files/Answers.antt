use Rattle.std.proofs.Common.{◌∙◌, ap, map, refl, rules, inl, inr}
use Rattle.ffv1_devices.specs.Logs.{WriteLog}
use Rattle.ffv1_commands.specs.Devices.{UnlessWriting}
use Rattle.ffv1_commands.specs.declared.fault.CliFault.TheVariants as faults
use Rattle.ffv1_commands.proofs.SpliceCommandSteps.{splice_of_bytes}
use Rattle.ffv1_program.proofs.Makes.{made_ok, made_err, made_unwritten, made_kept, made_says}
use Rattle.ffv1_program.proofs.Equals.{is_fault}
use Rattle.ffv1_program.proofs.Unread.{splice_unread}
use Rattle.ffv1_program.proofs.Unwritten.{splice_unwritten}
use Rattle.ffv1_program.proofs.frames.splice_files.Goals as goal

-- memory for the copies was refused, and nothing was written
pub returns-in_err-copies : goal.returns-in_err-copies
returns-in_err-copies g c recordings out =
    rw (is_fault faults.Memory c.from_residual.result c.from_residual.ensures.1)
    (record { does = tt; stops = inr (inl tt); keeps = (refl, refl); unread = tt; unwritten = tt; refuses = tt; names = tt })

pub returns : goal.returns
returns g c recordings out =
    let all = c.splice_of-all.result in
    let bytes = splice_of_bytes _ _ _ _ _ _ _ all c.splice_of-all.ensures.reported in
    let copies = ap (map (λ source. (g.F.Device.Source.log source).remaining)) c.as_mut_slice.ensures.value ∙ c.in_ok-copies.ensures.bytes in
    let at = rw (c.as_slice.ensures.value, ← c.as_mut_slice.ensures.value) at c.in_ok-copies.ensures.at in
    let after = ap (λ (log : WriteLog). log.contents) c.make_after.ensures.log in
    let tries = ap (λ (log : WriteLog). log.tries) c.make_after.ensures.log in
    record {
      does = made_ok all c.make_after.result _ _ c.make_after.ensures.ok
          (rw after (rw (copies, c.as_slice.ensures.value) at bytes.ok));
      stops = made_err all c.make_after.result _ _ _ _ _ c.make_after.ensures.err
          (rw after (rw (copies, c.as_slice.ensures.value) at bytes.ok))
          (rw after (rw (copies, c.as_slice.ensures.value) at bytes.err));
      keeps = made_kept _ all c.make_after.result c.args.made.now _ c.make_after.new.made _ UnlessWriting c.make_after.ensures.err (λ _. tt)
          c.splice_of-all.ensures.untouched;
      unread = made_says _ all c.make_after.result _ _ c.make_after.ensures.err tt
          (splice_unread (g.F.FileSystem.files c.args.files.now).is_device_at g.F.Device.Source.log c.args.copies.now.items _ _ at _ _ _ _ _ all
          c.splice_of-all.ensures.reported c.splice_of-all.ensures.unread);
      unwritten = made_unwritten _ _ _ _ _ all c.make_after.result c.make_after.ensures.err (λ lost. inr (rw tries lost)) inl
          (splice_unwritten _ _ _ _ _ _ _ all c.splice_of-all.ensures.reported);
      refuses = tt;
      names = made_says _ all c.make_after.result _ _ c.make_after.ensures.err tt (search (rules, bytes.names));
    }
