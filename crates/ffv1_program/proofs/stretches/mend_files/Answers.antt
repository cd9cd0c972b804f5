use Rattle.std.proofs.Common.{◌∙◌, ap, map, length, refl, sym, subst, IfErr, rules, inl, inr}
use Rattle.std.proofs.lemmas.List.{length-map}
use Rattle.ffv1_commands.specs.Fault.{NamesPath}
use Rattle.ffv1_commands.specs.Paths.{IsMendPath}
use mathlib.Core.List.{map-map}
use Rattle.std.proofs.KnownBytes.{Keeps-refl}
use Rattle.ffv1_devices.specs.Logs.{ReadLog, WriteLog}
use Rattle.ffv1_commands.specs.Lists.{IfOfList}
use Rattle.ffv1_commands.specs.MendText.{of_list}
use Rattle.ffv1_commands.specs.declared.fault.CliFault.TheVariants as faults
use Rattle.ffv1_commands.specs.declared.path.CommandPath.TheVariants as paths
use Rattle.ffv1_commands.proofs.MendCommandSteps.{mend_of_bytes, of_list_so}
use Rattle.ffv1_program.proofs.Makes.{made_ok, made_err, made_unwritten, made_kept, made_says, made_touched}
use Rattle.ffv1_program.proofs.Equals.{is_fault}
use Rattle.ffv1_program.proofs.Runs.{err_both, names_so, touched_bytes}
use Rattle.ffv1_program.proofs.Unread.{mend_unread}
use Rattle.ffv1_program.proofs.Unwritten.{mend_unwritten}
use Rattle.ffv1_program.proofs.stretches.mend_files.Goals as goal

-- memory for the copies was refused, and nothing was written
pub returns-in_err-copies : goal.returns-in_err-copies
returns-in_err-copies g c recordings =
    rw (is_fault faults.Memory c.from_residual.result c.from_residual.ensures.1) (record {
      does = tt;
      stops = inr (inl (of_list faults.Memory tt (Keeps-refl _) (Keeps-refl _)));
      keeps = (tt, inr (inl refl));
      unread = tt;
      unwritten = tt;
      refuses = search rules;
      names = tt;
    })

pub returns : goal.returns
returns g c recordings =
    let good = c.mend_of-good.result in
    let bytes = mend_of_bytes _ _ _ _ _ _ _ _ good c.mend_of-good.ensures.reported in
    let inputs = map-map (λ (log : ReadLog). log.remaining) (λ reader. g.F.Device.Source.log reader.source) c.as_mut_slice.result.now
    ∙ ap (map (λ reader. (g.F.Device.Source.log reader.source).remaining)) c.as_mut_slice.ensures.value ∙ c.in_ok-copies.ensures.bytes in
    let at = rw c.as_slice-2.ensures.value at c.in_ok-copies.ensures.at in
    let after = ap (λ (log : WriteLog). log.contents) c.make_after.ensures.log in
    let tries = ap (λ (log : WriteLog). log.tries) c.make_after.ensures.log in
    record {
      does = made_ok good c.make_after.result _ _ c.make_after.ensures.ok
          (rw after (rw (c.device.ensures.bytes, inputs, c.as_slice-2.ensures.value) at bytes.ok));
      stops = made_err good c.make_after.result _ _ _ _ _ c.make_after.ensures.err
          (rw after (rw (c.device.ensures.bytes, inputs, c.as_slice-2.ensures.value) at bytes.ok))
          (rw after (rw (c.device.ensures.bytes, inputs, c.as_slice-2.ensures.value) at bytes.err));
      keeps = err_both c.make_after.result _ _
          (made_kept _ good c.make_after.result c.args.made.now _ c.make_after.new.made _ (IfOfList paths.List) c.make_after.ensures.err (λ _. tt)
          (of_list_so paths.List good (λ same. (same.1, same.2)) c.mend_of-good.ensures.untouched))
          (made_touched _ (λ made. (g.O.Sink.log made).contents) good c.make_after.result c.args.made.now _ c.make_after.new.made c.make_after.ensures.err
          (touched_bytes paths.Out g.O.Sink.log c.args.made.now c.mend_of-good.new.out good c.mend_of-good.ensures.out_untouched));
      unread = made_says _ good c.make_after.result _ _ c.make_after.ensures.err tt
          (mend_unread (g.F.FileSystem.files c.args.files.now).is_device_at g.F.Device.Source.log (λ reader. reader.source) _ c.args.copies.now.items c.device.result
          c.mend_of-good.new.list c.in_ok-copies.copies.items c.as_mut_slice.result.now c.mend_of-good.new.copies c.device.ensures.at at c.as_mut_slice.ensures.value
          _ _ _ _ good c.mend_of-good.ensures.reported);
      unwritten = made_unwritten _ _ _ _ _ good c.make_after.result c.make_after.ensures.err (λ lost. inr (inr (rw tries lost)))
          (λ failed. inr (inl failed)) (mend_unwritten _ _ _ _ _ _ _ _ good c.mend_of-good.ensures.reported);
      refuses = λ is. absurd (elim is [
        | inl same ↦ search (rules, same)
        | inr there ↦ (let among = c.is_among.ensures.1 (rw c.as_slice.ensures.value there) in let not = c.if-is_among.false in cc)
      ]);
      names = names_so (IsMendPath c.args.copies.now.len) _ c.make_after.result (λ path named. named) (made_says _ good c.make_after.result _ _ c.make_after.ensures.err tt
          (subst (λ n. IfErr good (NamesPath (IsMendPath n)))
          (ap length inputs ∙ length-map c.as_slice-2.result.now _ ∙ ap length c.as_slice-2.ensures.value ∙ sym c.args.copies.now.ok.0) bytes.names));
    }
