use Rattle.ffv1_check.proofs.ReportOne.{report_is_one}
use Rattle.ffv1_check.proofs.check.report_is_one.Goals as goal

pub returns : goal.returns
returns c = report_is_one
