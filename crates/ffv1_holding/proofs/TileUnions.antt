-- What is held, with other slices added.
use Rattle.std.proofs.Common.{◌≡◌, ◌≤◌, ap}
use Rattle.ffv1_holding.specs.Sets as set
use Rattle.ffv1_holding.specs.SliceOrder.{entry_cmp, origin_cmp, entries_total, entries_antisymmetric}
use Rattle.ffv1_holding.specs.Inner.TileSets.{TileSlices, with_more}
use Rattle.ffv1_holding.proofs.RisingSets.{size_union}

module _ (old new : TileSlices) (s : set.SetOf entry_cmp) (t : set.SetOf origin_cmp) (added : new ≡ with_more old s t) where
  pub tiles-grown : new.tiles ≡ old.tiles
  tiles-grown = ap (λ (h : TileSlices). h.tiles) added

  pub slices-grown : new.slices ≡ set.union old.slices s
  slices-grown = ap (λ (h : TileSlices). h.slices) added

  pub origins-grown : new.origins ≡ set.union old.origins t
  origins-grown = ap (λ (h : TileSlices). h.origins) added

  pub size_grown : set.size old.slices ≤ set.size new.slices
  size_grown = rw (ap set.size slices-grown) (size_union entries_total entries_antisymmetric old.slices s)
