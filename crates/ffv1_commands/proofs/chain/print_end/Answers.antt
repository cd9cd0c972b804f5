use Rattle.std.proofs.Common.{◌∙◌, subst}
use Rattle.std.proofs.lemmas.Result.{err_from_is_err_and}
use Rattle.ffv1_devices.specs.Results.{WritesAll}
use Rattle.ffv1_devices.proofs.Steps.{StopsWriting-of}
use Rattle.ffv1_commands.specs.ChainText.{end_line}
use Rattle.ffv1_commands.proofs.PrintSteps.{front_rest}
use Rattle.ffv1_commands.proofs.chain.print_end.Goals as goal

pub returns-in_err-make_room : goal.returns-in_err-make_room
returns-in_err-make_room g c =
    let p = err_from_is_err_and c.from_residual.result c.from_residual.ensures.1 in
    rw p.1 (StopsWriting-of _ _ _ (end_line c.args.end) c.in_err-make_room.ensures.err)

pub returns : goal.returns
returns g c =
    front_rest _ _ _ _ _ (end_line c.args.end) c.in_ok-make_room.ensures.ok c.write_field.result
    (subst (WritesAll c.write_field.result _ _) (c.as_bytes.ensures.value ∙ c.push_end.ensures) c.write_field.ensures)
