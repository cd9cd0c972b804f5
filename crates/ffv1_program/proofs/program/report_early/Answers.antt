use Rattle.std.proofs.Common.{string_bytes}
use Rattle.ffv1_program.proofs.Reported.{reports_fault}
use Rattle.ffv1_program.proofs.program.report_early.Goals as goal

pub returns-clause-reported : goal.returns-clause-reported
returns-clause-reported g c = reports_fault string_bytes c.early_line.result _ _ _ c.early_line.ensures c.report.ensures
