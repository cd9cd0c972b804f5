use Rattle.std.proofs.Common.{string_bytes, ap}
use Rattle.ffv1_program.proofs.Reported.{reports_fault}
use Rattle.ffv1_program.proofs.program.report_end.Goals as goal
use Rattle.ffv1_program.proofs.program.report_end.Goals.{in-Ok, in-Err}

pub returns-clause-reported : goal.returns-clause-reported
returns-clause-reported g c =
    elim c.match-done.branch [
      | in-Ok w ↦ rw w.in-Ok.is (ap g.E.Sink.log w.errors-is)
      | in-Err w ↦ rw (w.in-Err.is, w.errors-is) (reports_fault string_bytes w.command_line.result _ _ _ w.command_line.ensures w.report.ensures)
    ]
