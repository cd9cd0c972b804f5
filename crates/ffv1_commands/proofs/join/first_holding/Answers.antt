use Rattle.std.proofs.Common.{◌++◌, ap, ◌∙◌, inl, inr, refl}
use Rattle.std.proofs.lemmas.Result.{err_from_is_err_and}
use Rattle.std.specs.String.{string_bytes}
use Rattle.ffv1_commands.specs.JoinText.{file_line}
use Rattle.ffv1_commands.proofs.join.first_holding.Goals as goal

pub returns-in_err-read-clause-err : goal.returns-in_err-read-clause-err
returns-in_err-read-clause-err g c =
    let p = err_from_is_err_and c.from_residual.result c.from_residual.ensures.1 in
    rw (p.1, p.2) (inl c.in_err-read.ensures.read)

pub returns-in_err-push_file-clause-err : goal.returns-in_err-push_file-clause-err
returns-in_err-push_file-clause-err g c =
    let p = err_from_is_err_and c.from_residual-in_err-push_file.result c.from_residual-in_err-push_file.ensures.1 in
    rw (p.1, p.2) (inr (refl, (c.as_taken-whole.result, (c.in_ok-read.read, c.in_ok-read.ensures.read, c.as_taken-whole.ensures))))

pub returns : goal.returns
returns g c = record {
  ok = (c.in_ok-read.read, c.in_ok-read.ensures.read, c.as_taken-whole.ensures);
  line = c.in_ok-push_file.ensures ∙ ap (λ count. string_bytes c.args.lines.now ++ file_line 1 count) c.size.ensures;
  err = tt;
}
