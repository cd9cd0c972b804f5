use Rattle.std.proofs.Common.{rules}
use Rattle.ffv1_commands.proofs.CheckCommandSteps.{check_of_bytes}
use Rattle.ffv1_commands.proofs.Wrapped.{one_through}
use Rattle.ffv1_commands.proofs.check.run_check.Goals as goal

pub returns : goal.returns
returns g c =
    let bytes = check_of_bytes _ _ _ _ _ _ c.check_of.result c.check_of.ensures.reported in
    let kept = one_through c.check_of.result _ _ _ c.new-3.ensures.writer c.check_of.ensures.untouched in
    record { ok = search (rules, bytes.ok); err = search (rules, bytes.err); untouched = search (rules, kept); names = bytes.names }
