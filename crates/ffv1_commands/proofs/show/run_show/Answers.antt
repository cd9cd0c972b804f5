use Rattle.std.proofs.Common.{rules}
use Rattle.ffv1_commands.proofs.RecordTexts.{show_of_bytes}
use Rattle.ffv1_commands.proofs.Wrapped.{one_through}
use Rattle.ffv1_commands.proofs.show.run_show.Goals as goal

pub returns : goal.returns
returns g c =
    let bytes = show_of_bytes _ _ _ _ _ _ c.show_of.result c.show_of.ensures.reported in
    let kept = one_through c.show_of.result _ _ _ c.new-2.ensures.writer c.show_of.ensures.untouched in
    record { ok = search (rules, bytes.ok); few = search (rules, bytes.few); err = search (rules, bytes.err); untouched = search (rules, kept); names = bytes.names }
