use Rattle.std.proofs.Common.{ℕ, ◌<◌, get_or, arith, refl, sym, ◌∙◌, subst, below_more}
use Rattle.std.proofs.lemmas.Bool.{false≢true}
use Rattle.std.proofs.lemmas.List.{get_or_default}
use Rattle.ffv1_vectors.specs.Frames.{FitsTile}
use Rattle.ffv1_vectors.proofs.frame.fit_tiles.Goals as goal

pub loop-tile-init : goal.loop-tile-init
loop-tile-init c = λ tile d lt. absurd (omega arith)

pub fits_tile-requires : goal.fits_tile-requires
fits_tile-requires c = subst (λ n. c.loop-tile.tile < n) c.requires c.loop-tile-test.true

pub returns-then-not-fits_tile : goal.returns-then-not-fits_tile
returns-then-not-fits_tile c = (
  λ yes. absurd (false≢true yes),
  λ fits. absurd (false≢true (sym c.if-not-fits_tile.true ∙ c.fits_tile.ensures.1
      (subst (FitsTile c.args.setup.now c.loop-tile.tile) (sym c.index-tiles-tile.is)
      (fits c.loop-tile.tile c.index-tiles-tile.result c.loop-tile-test.true)))),
)

pub loop-tile-preserved : goal.loop-tile-preserved
loop-tile-preserved c = λ tile d lt.
    let P = λ (k : ℕ). FitsTile c.args.setup.now k (get_or c.args.tiles.now k d) in
    below_more P c.loop-tile.tile (λ k less. c.loop-tile.invariant k d less)
    (subst (FitsTile c.args.setup.now c.loop-tile.tile)
    (c.index-tiles-tile.is ∙ get_or_default c.args.tiles.now c.loop-tile.tile c.index-tiles-tile.result d c.loop-tile-test.true)
    (c.fits_tile.ensures.0 c.if-not-fits_tile.false)) tile lt

pub returns : goal.returns
returns c = (λ yes tile d lt. c.loop-tile.invariant tile d (omega arith), λ fits. refl)
