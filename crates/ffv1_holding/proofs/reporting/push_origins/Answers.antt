use Rattle.std.proofs.Common.{◌<◌, length, string_bytes, sym, ◌∙◌, arith}
use mathlib.Core.Bool.{true≢false}
use Rattle.ffv1_holding.specs.ReportText.{origin_line}
use Rattle.ffv1_holding.proofs.Reports.{added_more}
use Rattle.ffv1_holding.proofs.SettledSlices.{settled_held}
use Rattle.ffv1_holding.proofs.reporting.push_origins.Goals as goal

-- a settled slice is held
pub returns-in_default-origins : goal.returns-in_default-origins
returns-in_default-origins g c =
    let held = settled_held c.args.holding.now c.reel-reel.ensures.well_formed c.args.tile c.in-Settled.slice.now (sym c.in-Settled.ensures) in
    absurd (true≢false (sym held ∙ c.in_default-origins.ensures.absent))

pub loop-origin-preserved : goal.loop-origin-preserved
loop-origin-preserved g c =
    let lt : c.loop-origin.origin-index < length c.in-Some.origins.now = omega arith in
    added_more (origin_line c.args.tile) c.in-Some.origins.now c.loop-origin.origin-index _ (string_bytes c.args.text.now)
    (string_bytes c.loop-origin.text) _ lt c.in_ok-push_origin.ensures c.loop-origin.invariant
