use Rattle.std.proofs.Common.{ℕ, rules, refl, sym, ap, subst, ◌∙◌, inl, IfErr}
use Rattle.std.proofs.KnownBytes.{Keeps-refl}
use Rattle.std.proofs.lemmas.List.{length-map}
use Rattle.std.proofs.lemmas.Result.{err_from_is_err_and}
use Rattle.ffv1_devices.specs.Logs.{ReadLog}
use Rattle.ffv1_commands.specs.Fault.{NamesPath}
use Rattle.ffv1_commands.specs.Paths.{IsTakePath}
use Rattle.ffv1_commands.proofs.MendCommandSteps.{left_kept}
use Rattle.ffv1_commands.proofs.SamplesSteps.{samples_of_files, sources_are, begins_of_inputs, begun_so}
use Rattle.ffv1_commands.proofs.SmallSamples.{written}
use Rattle.ffv1_commands.proofs.Wrapped.{if_of_record}
use Rattle.ffv1_commands.proofs.samples.run_samples.Goals as goal

pub returns-in_err-sources-clause-err : goal.returns-in_err-sources-clause-err
returns-in_err-sources-clause-err g c =
    let p = err_from_is_err_and c.from_residual.result c.from_residual.ensures.1 in
    rw (p.1, p.2) (inl (Keeps-refl _, Keeps-refl _))

pub returns-in_err-sources-clause-begun : goal.returns-in_err-sources-clause-begun
returns-in_err-sources-clause-begun g c =
    let p = err_from_is_err_and c.from_residual.result c.from_residual.ensures.1 in
    rw p.1 (inl (refl, refl))

pub returns-clause-ok : goal.returns-clause-ok
returns-clause-ok g c =
    let bytes = samples_of_files _ g.F.Read.remaining _ _ c.args.frames.items c.as_mut_slice.ensures.value c.in_ok-sources.ensures _ _ _ _ _ _ _ _ _
    c.samples_of.result c.samples_of.ensures.reported in
    search (rules, bytes.ok)

pub returns-clause-shown : goal.returns-clause-shown
returns-clause-shown g c =
    let bytes = samples_of_files _ g.F.Read.remaining _ _ c.args.frames.items c.as_mut_slice.ensures.value c.in_ok-sources.ensures _ _ _ _ _ _ _ _ _
    c.samples_of.result c.samples_of.ensures.reported in
    search (rules, written _ _ _ _ _ _ _ _ _ bytes.ok)

pub returns-clause-err : goal.returns-clause-err
returns-clause-err g c =
    let bytes = samples_of_files _ g.F.Read.remaining _ _ c.args.frames.items c.as_mut_slice.ensures.value c.in_ok-sources.ensures _ _ _ _ _ _ _ _ _
    c.samples_of.result c.samples_of.ensures.reported in
    search (rules, bytes.err)

pub returns-clause-untouched : goal.returns-clause-untouched
returns-clause-untouched g c =
    if_of_record _ _ c.samples_of.result (λ same. (
      left_kept g.O.Write.contents c.new-2.result c.samples_of.new.out c.args.out.now _ _ c.new-2.ensures.log c.new-2.ensures.writer (search rules) same.1,
      left_kept g.W.Write.contents c.new-3.result c.samples_of.new.output c.args.output.now _ _ c.new-3.ensures.log c.new-3.ensures.writer
          (search rules) same.2,
    )) c.samples_of.ensures.untouched

pub returns-clause-begun : goal.returns-clause-begun
returns-clause-begun g c =
    begun_so c.samples_of.result _ _ _ _ c.samples_of.ensures.begun (λ same. (
      left_kept g.O.Write.contents c.new-2.result c.samples_of.new.out c.args.out.now _ _ c.new-2.ensures.log c.new-2.ensures.writer (search rules) same.0,
      left_kept g.W.Write.contents c.new-3.result c.samples_of.new.output c.args.output.now _ _ c.new-3.ensures.log c.new-3.ensures.writer
          (search rules) same.1,
    )) (begins_of_inputs _ _ _ _ _ _ _ _ (ap (λ (log : ReadLog). log.remaining) c.new.ensures.log)
    (sources_are _ g.F.Read.remaining _ _ c.args.frames.items c.as_mut_slice.ensures.value c.in_ok-sources.ensures))

pub returns-clause-names : goal.returns-clause-names
returns-clause-names g c =
    let bytes = samples_of_files _ g.F.Read.remaining _ _ c.args.frames.items c.as_mut_slice.ensures.value c.in_ok-sources.ensures _ _ _ _ _ _ _ _ _
    c.samples_of.result c.samples_of.ensures.reported in
    subst (λ (n : ℕ). IfErr c.samples_of.result (NamesPath (IsTakePath n))) (length-map c.args.frames.items g.F.Read.remaining ∙ sym c.args.frames.ok.0)
    bytes.names
