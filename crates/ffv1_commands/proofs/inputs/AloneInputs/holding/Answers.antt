use Rattle.std.proofs.Common.{◌≡◌, refl}
use Rattle.std.proofs.lemmas.Result.{err_from_is_err_and}
use Rattle.ffv1_commands.specs.InTurn.{log_of}
use Rattle.ffv1_commands.specs.declared.fault.CliFault.TheVariants.{Memory}
use Rattle.ffv1_commands.proofs.JoinedFiles.{unbuffered}
use Rattle.ffv1_commands.proofs.inputs.AloneInputs.holding.Goals as goal

pub returns-in_err-buffered : goal.returns-in_err-buffered
returns-in_err-buffered g c =
    let p = err_from_is_err_and c.from_residual.result c.from_residual.ensures.1 in
    let memory : c.in_err-buffered.field-0.0 ≡ Memory = c.in_err-buffered.ensures.err in
    let input = g.C.Read.remaining c.args.input.now in
    let (log, stops) = unbuffered c.args.recordings c.args.path input in
    rw (p.1, p.2, memory) (log_of input, log, refl, stops)
