use Rattle.std.proofs.Common.{arith, ap, length}
use Rattle.std.proofs.lemmas.List.{length-append}
use Rattle.ffv1_vectors.specs.Frames.{FitsTile}
use Rattle.ffv1_vectors.specs.Suite.{IsSuiteTile}
use Rattle.ffv1_vectors.specs.declared.frame.TileSpec.{TileSpec}
use Rattle.ffv1_vectors.proofs.SuiteSteps.{each_more}
use Rattle.ffv1_vectors.proofs.suite.suite_frame.Goals as goal

pub loop-tile-preserved : goal.loop-tile-preserved
loop-tile-preserved c =
    let before = c.loop-tile.invariant in
    let made = c.in_ok-suite_tile.ensures in
    let items = c.in_ok-push.ensures.items in
    record {
      count = omega (arith, ap length items, length-append {A = TileSpec});
      fit = λ tile d.
          each_more (FitsTile c.args.setup.now) c.loop-tile.tile c.loop-tile.tiles.items c.push.new.self.items c.in_ok-suite_tile.field-0 d before.count items
          (λ k. before.fit k d) made.fits tile;
      of_case = λ tile d.
          each_more (IsSuiteTile c.args.case.now) c.loop-tile.tile c.loop-tile.tiles.items c.push.new.self.items c.in_ok-suite_tile.field-0 d before.count items
          (λ k. before.of_case k d) made.tile tile;
    }
