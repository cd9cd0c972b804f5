use Rattle.std.proofs.Common.{inl, refl, sym, subst}
use Rattle.std.proofs.lemmas.Result.{err_from_is_err_and}
use Rattle.ffv1_commands.specs.JoinText.{JoinsAll, IfFileUnread}
use Rattle.ffv1_commands.specs.Holdings.{IsUnheld}
use Rattle.ffv1_commands.specs.Inner.Inputs.{Goes}
use Rattle.ffv1_commands.proofs.InputFaults.{untouched_both}
use Rattle.ffv1_commands.proofs.MadeFiles.{made_err}
use Rattle.ffv1_commands.proofs.JoinedFiles.{files-unwritten, made_joined}
use Rattle.ffv1_commands.proofs.join.join_by.Goals as goal

pub returns-in_err-whole : goal.returns-in_err-whole
returns-in_err-whole g c =
    let p = err_from_is_err_and c.from_residual.result c.from_residual.ensures.1 in
    let f = c.in_err-whole.field-0.0 in
    let stops = c.in_err-whole.ensures.err in
    rw (p.1, p.2) (record {
      reported = inl (stops, (refl, refl));
      unread = c.in_err-whole.ensures.unread;
      untouched = untouched_both c.args.out.now c.args.output.now f (files-unwritten _ _ _ _ _ _ f stops);
    })

pub returns : goal.returns
returns g c =
    let all = subst (JoinsAll c.args.recordings _ _ _ c.in_ok-whole.whole) (sym c.as_str.ensures.value) c.in_ok-whole.ensures.ok in
    record {
      reported = made_joined _ _ _ _ c.args.others.now _ _ _ _ _ c.in_ok-whole.whole c.as_str.result.now all c.write_made.result c.write_made.ensures.reported;
      unread = made_err c.in_ok-whole.whole c.as_str.result.now _ _ _ _ (IfFileUnread (Goes g.I.Inputs.went (IsUnheld c.args.recordings)) _ _) (λ file. tt) tt tt c.write_made.result c.write_made.ensures.reported;
      untouched = c.write_made.ensures.untouched;
    }
