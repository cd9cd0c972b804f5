use Rattle.std.proofs.Common.{◌≡◌, ◌==◌, false, sym, ◌∙◌, rules}
use Rattle.std.proofs.lemmas.Bool.{ne_eqb}
use Rattle.ffv1_holding.specs.Reels.{reel_tiles}
use Rattle.ffv1_holding.specs.ReportText.{tiles_that, is_settled}
use Rattle.ffv1_holding.proofs.reporting.push_frame.Goals as goal

pub returns-else-settled-tiles : goal.returns-else-settled-tiles
returns-else-settled-tiles g c =
    let count : c.tiles.result ≡ reel_tiles c.args.holding.now.reel = rw (sym c.reel.ensures.value) c.tiles.ensures.count in
    let other : (tiles_that is_settled c.args.holding.now == reel_tiles c.args.holding.now.reel) ≡ false =
    ne_eqb _ _ (λ same. c.if-settled-tiles.false (c.requires ∙ same ∙ sym count)) in
    rw (other) (search rules)
