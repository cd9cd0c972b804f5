use Rattle.std.proofs.Common.{length, []}
use Rattle.ffv1_check.proofs.report.report_of.Goals as goal

pub report-requires : goal.report-requires
report-requires c = (c.args.parts.now, c.in_ok-take.ensures (length c.args.tracks.now) [] c.in_ok-reporter.ensures)

pub returns : goal.returns
returns c = c.report.ensures c.args.parts.now (c.in_ok-take.ensures (length c.args.tracks.now) [] c.in_ok-reporter.ensures)
