use Rattle.std.proofs.Common.{◌∙◌}
use Rattle.ffv1_holding.specs.ReportText.{slices_held}
use Rattle.ffv1_holding.proofs.Reports.{least_is}
use Rattle.ffv1_holding.proofs.reporting.held_status.Goals as goal

pub returns : goal.returns
returns g c = c.unwrap_or.ensures ∙ least_is (slices_held c.args.holding.now c.args.tile) c.status.result c.status.ensures
