use Rattle.std.proofs.Common.{sym, ap, ◌∙◌}
use mathlib.Core.Bool.{true≢false}
use Rattle.ffv1_holding.specs.Sets as set
use Rattle.ffv1_holding.specs.SliceOrder.{entry_cmp, origin_cmp}
use Rattle.ffv1_holding.specs.Inner.TileSets.{TileSlices}
use Rattle.ffv1_holding.proofs.holding.Holding.of_reel.Goals as goal

pub invariant_of-result : goal.invariant_of-result
invariant_of-result g c = record {
  reel = c.tiles.ensures.well_formed;
  tiles = ap (λ (h : TileSlices). h.tiles) c.in_ok-held.ensures ∙ c.tiles.ensures.count;
  slices = λ q held. absurd (true≢false (sym held ∙ ap (λ (h : TileSlices). set.contains h.slices q) c.in_ok-held.ensures ∙ set.contains-empty entry_cmp q));
  origins_held = λ q held. absurd (true≢false (sym held ∙ ap (λ (h : TileSlices). set.contains h.origins q) c.in_ok-held.ensures
      ∙ set.contains-empty origin_cmp q));
  digests_whole = λ q held. absurd (true≢false (sym held ∙ ap (λ (h : TileSlices). set.contains h.origins q) c.in_ok-held.ensures
      ∙ set.contains-empty origin_cmp q));
}
