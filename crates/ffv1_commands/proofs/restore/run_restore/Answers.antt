use Rattle.std.proofs.Common.{rules}
use Rattle.ffv1_commands.proofs.RestoreSteps.{restore_of_bytes}
use Rattle.ffv1_commands.proofs.Wrapped.{both_through}
use Rattle.ffv1_commands.proofs.restore.run_restore.Goals as goal

pub returns : goal.returns
returns g c =
    let bytes = restore_of_bytes c.args.recordings _ _ _ _ _ _ c.restore_of.result c.restore_of.ensures.reported in
    let kept = both_through c.restore_of.result _ _ _ _ _ _ c.new.ensures.writer c.new-2.ensures.writer c.restore_of.ensures.untouched in
    record { ok = search (rules, bytes.ok); err = search (rules, bytes.err); untouched = search (rules, kept); names = bytes.names }
