use Rattle.std.proofs.Common.{rules}
use Rattle.ffv1_commands.proofs.ReportSteps.{report_of_bytes}
use Rattle.ffv1_commands.proofs.Wrapped.{one_through}
use Rattle.ffv1_commands.proofs.report.run_report.Goals as goal

pub returns : goal.returns
returns g c =
    let bytes = report_of_bytes c.args.recordings _ _ _ _ c.report_of.result c.report_of.ensures.reported in
    let kept = one_through c.report_of.result _ _ _ c.new.ensures.writer c.report_of.ensures.untouched in
    record { ok = search (rules, bytes.ok); err = search (rules, bytes.err); untouched = search (rules, kept); names = bytes.names }
