use Rattle.std.proofs.Common.{ℕ, rules, sym, subst, ◌∙◌, IfErr}
use Rattle.std.proofs.KnownBytes.{Keeps-refl}
use Rattle.std.proofs.lemmas.List.{length-map}
use Rattle.std.proofs.lemmas.Result.{err_from_is_err_and}
use Rattle.ffv1_commands.specs.Fault.{NamesPath}
use Rattle.ffv1_commands.specs.MendText.{of_list}
use Rattle.ffv1_commands.specs.Paths.{IsMendPath}
use Rattle.ffv1_commands.specs.declared.fault.CliFault.TheVariants as faults
use Rattle.ffv1_commands.specs.declared.path.CommandPath.TheVariants as paths
use Rattle.ffv1_commands.proofs.MendCommandSteps.{mend_of_files, none_is_read, of_list_so, left_kept, left_touched}
use Rattle.ffv1_commands.proofs.mend.run_mend.Goals as goal

pub mend_of-requires : goal.mend_of-requires
mend_of-requires g c = none_is_read _ g.C.Read.remaining _ _ c.args.copies.items c.as_mut_slice.ensures.value c.in_ok-readers.ensures

pub returns-in_err-readers-clause-err : goal.returns-in_err-readers-clause-err
returns-in_err-readers-clause-err g c =
    let p = err_from_is_err_and c.from_residual.result c.from_residual.ensures.1 in
    rw (p.1, p.2) (of_list faults.Memory tt (Keeps-refl _) (Keeps-refl _))

pub returns-clause-ok : goal.returns-clause-ok
returns-clause-ok g c =
    let bytes = mend_of_files _ g.C.Read.remaining _ _ c.args.copies.items c.as_mut_slice.ensures.value c.in_ok-readers.ensures _ _ _ _ _ _ _ c.mend_of.result c.mend_of.ensures.reported in
    search (rules, bytes.ok)

pub returns-clause-err : goal.returns-clause-err
returns-clause-err g c =
    let bytes = mend_of_files _ g.C.Read.remaining _ _ c.args.copies.items c.as_mut_slice.ensures.value c.in_ok-readers.ensures _ _ _ _ _ _ _ c.mend_of.result c.mend_of.ensures.reported in
    search (rules, bytes.err)

pub returns-clause-untouched : goal.returns-clause-untouched
returns-clause-untouched g c =
    of_list_so paths.List c.mend_of.result (λ same. (
      left_kept g.O.Write.contents c.new-2.result c.mend_of.new.out c.args.out.now _ _ c.new-2.ensures.log c.new-2.ensures.writer (search rules) same.1,
      left_kept g.W.Write.contents c.new-3.result c.mend_of.new.output c.args.output.now _ _ c.new-3.ensures.log c.new-3.ensures.writer
          (search rules) same.2,
    )) c.mend_of.ensures.untouched

pub returns-clause-out_untouched : goal.returns-clause-out_untouched
returns-clause-out_untouched g c =
    left_touched g.O.Write.contents c.new-2.result c.mend_of.new.out c.args.out.now _ _ c.new-2.ensures.log c.new-2.ensures.writer (search rules)
    paths.Out c.mend_of.result c.mend_of.ensures.out_untouched

pub returns-clause-output_untouched : goal.returns-clause-output_untouched
returns-clause-output_untouched g c =
    left_touched g.W.Write.contents c.new-3.result c.mend_of.new.output c.args.output.now _ _ c.new-3.ensures.log c.new-3.ensures.writer
    (search rules) paths.StandardOutput c.mend_of.result c.mend_of.ensures.output_untouched

pub returns-clause-names : goal.returns-clause-names
returns-clause-names g c =
    let bytes = mend_of_files _ g.C.Read.remaining _ _ c.args.copies.items c.as_mut_slice.ensures.value c.in_ok-readers.ensures _ _ _ _ _ _ _ c.mend_of.result c.mend_of.ensures.reported in
    subst (λ (n : ℕ). IfErr c.mend_of.result (NamesPath (IsMendPath n))) (length-map c.args.copies.items g.C.Read.remaining ∙ sym c.args.copies.ok.0) bytes.names
