-- What can be written of a tile and of a holding.
use Rattle.ffv1_hold.proofs.Common.{◌≡◌, ℕ, true, get_or, sym, ◌∙◌, arith, bytes_total, tile_slices, Contents, AreWithinLimit, AreWritable, size-items, contains_item, contains-tile_slices, ◌<◌, ◌*◌, ap, subst, IsHolding, HeadLimits, reel_limits, reel_tiles_few, slice_in_grid, ◌==◌}
use Rattle.ffv1_holding.specs.Sets as set

-- the slices of one tile are within their limit
pub tile_within_limit : (h : Contents) → AreWritable h → (t : ℕ) → AreWithinLimit (tile_slices h.slices t)
tile_within_limit h all t i d lt =
    let s = tile_slices h.slices t in
    let b = get_or (set.items s) i d in
    let there : set.contains s b ≡ true = contains_item bytes_total s i d (omega (arith, size-items s)) in
    all.fits (t, b) (sym (contains-tile_slices h.slices t b) ∙ there)

-- what a holding has can be written
pub writable : (h : Contents) → IsHolding h → AreWritable h
writable h is = record {
  few = let few = reel_tiles_few h.reel is.reel in omega arith;
  tile = λ e held.
      let below = slice_in_grid h.reel.rules e.1 (e.0 == 0) e.0 (is.slices e held).slice in
      let limits = ap (λ (limits : HeadLimits). limits.across * limits.down) (reel_limits h.reel is.reel) in
      subst (λ tiles. e.0 < tiles) limits below;
  fits = λ e held. (is.slices e held).fits;
}
