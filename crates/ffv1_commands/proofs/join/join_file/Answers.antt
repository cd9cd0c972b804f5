use Rattle.std.proofs.Common.{◌++◌, ap, ◌∙◌, inl, inr, refl}
use Rattle.std.proofs.lemmas.Result.{err_from_is_err_and}
use Rattle.std.specs.String.{string_bytes}
use Rattle.ffv1_commands.proofs.JoinSteps.{line_of_join-from}
use Rattle.ffv1_commands.proofs.JoinedFiles.{join_refused}
use Rattle.ffv1_commands.proofs.join.join_file.Goals as goal

pub returns-in_err-read : goal.returns-in_err-read
returns-in_err-read g c =
    let p = err_from_is_err_and c.from_residual.result c.from_residual.ensures.1 in
    let (a, b, so, stops) = c.in_err-read.ensures in
    rw (p.1, p.2) (a, b, so, inl (inl stops))

pub returns-in_err-new : goal.returns-in_err-new
returns-in_err-new g c =
    let p = err_from_is_err_and c.from_residual-in_err-new.result c.from_residual-in_err-new.ensures.1 in
    let (a, b, so, read) = c.in_ok-read.ensures in
    rw (p.1, p.2) (
      a,
      b,
      so,
      join_refused _ c.args.before _ _ c.args.whole.now c.as_taken.result (c.in_ok-read.read, read, c.as_taken.ensures) c.join_in.result
          c.in_err-new.field-0.0 c.in_err-new.was c.join_in.ensures.other_reel c.join_in.ensures.too_long,
    )

pub returns-in_err-push_file : goal.returns-in_err-push_file
returns-in_err-push_file g c =
    let p = err_from_is_err_and c.from_residual-in_err-push_file.result c.from_residual-in_err-push_file.ensures.1 in
    let (a, b, so, read) = c.in_ok-read.ensures in
    rw (p.1, p.2) (a, b, so, inl (inr (refl, (c.as_taken.result, (c.in_ok-read.read, read, c.as_taken.ensures)))))

pub returns : goal.returns
returns g c =
    let (a, b, so, read) = c.in_ok-read.ensures in (
      a,
      b,
      so,
      record {
        other = c.as_taken.result;
        file = (c.in_ok-read.read, read, c.as_taken.ensures);
        same = c.in_ok-new.ensures.joinable;
        held = c.in_ok-new.ensures.joined;
        line = c.in_ok-push_file.ensures ∙ ap (λ t. string_bytes c.args.lines.now ++ t)
            (line_of_join-from _ c.args.whole.now c.as_taken.result c.join_in.new.whole c.in_ok-new.new c.in_ok-new.ensures.joined c.in_ok-new.ensures.growth);
      },
    )
