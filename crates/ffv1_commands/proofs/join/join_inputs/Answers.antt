use Rattle.std.proofs.Common.{◌<◌, ◌+◌, ◌++◌, map, length, take, inl, inr, subst, sym, ap, ◌∙◌, refl, arith}
use Rattle.std.proofs.lemmas.Result.{err_from_is_err_and}
use Rattle.std.specs.String.{string_bytes}
use Rattle.ffv1_holding.specs.Sets as set
use Rattle.ffv1_commands.specs.InTurn.{ReadsAlone}
use Rattle.ffv1_commands.specs.JoinText.{file_line, JoinBreaks}
use Rattle.ffv1_commands.specs.declared.path.CommandPath.TheVariants as paths
use Rattle.ffv1_commands.proofs.InputLaws.{length-inputs, inputs_all}
use Rattle.ffv1_commands.proofs.LaterInputs.{inputs_more, input_here, rest_kept}
use Rattle.ffv1_commands.proofs.HeldSources.{goes_read, joined_by, join_goes, first_read, later_unread}
use Rattle.ffv1_commands.proofs.JoinedFiles.{all_first, all_more, all_as}
use Rattle.ffv1_commands.proofs.join.join_inputs.Goals as goal

pub loop-place-init : goal.loop-place-init
loop-place-init g c =
    let reported = c.in_ok-whole.ensures.line ∙ ap (λ t. t ++ file_line 1 (set.size c.in_ok-whole.whole.slices)) c.requires.none in
    record { joined = all_first c.args.recordings _ _ c.in_ok-whole.whole _ reported c.in_ok-whole.ensures.ok; others = refl }

pub loop-place-preserved : goal.loop-place-preserved
loop-place-preserved g c =
    let old = c.args.others.now in
    let kept = c.loop-place.invariant.others in
    let there : c.loop-place.place < length c.args.others.now = omega arith in
    let (a, b, so, one) = c.in_ok-join_file.ensures in
    let (log, read) = goes_read g.I.Inputs.went g.I.Inputs.remaining g.met.I.Inputs.left _ one.other _ _ (a, b, so, one.file) in
    let more = all_more c.args.recordings (take c.loop-place.place (map g.I.Inputs.remaining old)) _ _ c.loop-place.whole c.join_file.new.whole
    (string_bytes c.loop-place.lines) (string_bytes c.join_file.new.lines) _ c.loop-place.place log c.loop-place.invariant.joined
    (length-inputs g.I.Inputs.remaining old c.loop-place.place (omega arith)) (joined_by _ _ _ _ _ _ _ one read) in
    record {
      joined = all_as c.args.recordings _ _ _ _ _ _
          (inputs_more old c.loop-place.others c.loop-place.place kept g.I.Inputs.remaining there c.index-others-place.result) more;
      others = rest_kept old c.loop-place.others c.loop-place.place kept c.join_file.new.file;
    }

pub returns-in_err-whole : goal.returns-in_err-whole
returns-in_err-whole g c =
    let p = err_from_is_err_and c.from_residual.result c.from_residual.ensures.1 in
    rw (p.1, p.2) (record {
      ok = tt;
      err = inl (c.in_err-whole.ensures.err, refl);
      unread = first_read _ _ _ _ c.in_err-whole.field-0.0 _ _ c.in_err-whole.ensures.err;
    })

pub returns-in_err-join_file : goal.returns-in_err-join_file
returns-in_err-join_file g c =
    let p = err_from_is_err_and c.from_residual-in_err-join_file.result c.from_residual-in_err-join_file.ensures.1 in
    let f = c.in_err-join_file.field-0.0 in
    let i = c.loop-place.place in
    let kept = c.loop-place.invariant.others in
    let there : i < length c.args.others.now = omega arith in
    let here = input_here c.args.others.now c.loop-place.others i kept g.I.Inputs.remaining there c.index-others-place.result in
    let stops = subst (ReadsAlone (JoinBreaks c.args.recordings (paths.Hold (i + 1)) c.loop-place.whole f)) (sym here)
    (join_goes g.I.Inputs.went g.I.Inputs.remaining g.met.I.Inputs.left _ (paths.Hold (i + 1)) c.loop-place.whole f _ _ c.in_err-join_file.ensures) in
    let later = rest_kept c.args.others.now c.loop-place.others i kept c.join_file.new.file in
    rw (p.1, p.2) (record {
      ok = tt;
      err = inr (i, there, (c.loop-place.whole, string_bytes c.loop-place.lines, c.loop-place.invariant.joined, stops), later);
      unread = later_unread _ g.I.Inputs.went c.args.others.now c.loop-place.others i c.index-others-place.result c.join_file.new.file f
          c.loop-place.whole kept c.loop-place.auto.others there c.in_err-join_file.ensures;
    })

pub returns : goal.returns
returns g c = record {
  ok = all_as c.args.recordings _ _ _ _ _ _ (inputs_all g.I.Inputs.remaining c.args.others.now c.loop-place.place (omega arith)) c.loop-place.invariant.joined;
  err = tt;
  unread = tt;
}
