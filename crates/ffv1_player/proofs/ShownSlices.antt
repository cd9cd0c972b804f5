-- A holding of just a frame's slices shows these.
use Rattle.std.proofs.Common.{◌≡◌, ℕ, ◌<◌, List, [], length, get_or, None, sym, ap, subst, ◌∙◌, arith}
use Rattle.ffv1_range.specs.declared.scope.Scope.TheVariants.{Parities}
use Rattle.ffv1_range.proofs.SetupLaws.{record_in_version_3}
use Rattle.ffv1_holding.specs.Reels.{Reel, IsReel, reel_tiles}
use Rattle.ffv1_holding.specs.Contents.{Contents}
use Rattle.ffv1_holding.specs.TileState.{settled, tile_state}
use Rattle.ffv1_holding.specs.Originals.{HoldsExactly}
use Rattle.ffv1_holding.proofs.Restored.{settled_alone, tile_for_each}
use Rattle.ffv1_slice.specs.Slices.{IsOriginal}
use Rattle.ffv1_player.specs.Shown.{MayBeByTile, is_key_known, IsShownTile, ShowsHolding}
use Rattle.ffv1_player.specs.ShownSlices.{ShowsEachSlice}
use Rattle.ffv1_player.specs.declared.shown.Shown.{Shown}
use Rattle.ffv1_player.specs.declared.shown.ShownTile.TheVariants.{Missing}
use Rattle.ffv1_player.proofs.Showing.{some_tile}

module _ (h : Contents) (original : List ℕ) (slices : List (List ℕ)) (reel : IsReel h.reel) (is_original : IsOriginal h.reel.rules original slices)
    (exact : HoldsExactly h slices) where
  count : length slices ≡ reel_tiles h.reel
  count = tile_for_each h slices exact original reel is_original

  some : 0 < length slices
  some =
      let own = reel.0 in
      let of = reel.1.0 in
      let version = record_in_version_3 own.config Parities own.setup.width own.setup.height of.0 of.1 in
      let setup = ap (λ (z : Reel). z.setup) reel.1.1.1 ∙ ap (λ (z : Reel). z.setup) of.2 in
      omega (arith, count, some_tile h.reel of.0 version (sym setup))

  stands : (tile : ℕ) → tile < length slices → tile_state h tile ≡ settled (get_or slices tile [])
  stands tile less = settled_alone h slices exact tile [] less

  pub exact_shows : (shown : Shown) → ShowsHolding h shown → ShowsEachSlice h.reel slices shown
  exact_shows shown shows =
      let r = shows.recording in
      record {
        recording = r;
        says = shows.says;
        key = shows.key;
        is_key = subst (λ s. MayBeByTile r s shows.key) (stands 0 some) shows.may_be;
        is_known = shows.known ∙ ap (is_key_known r) (stands 0 some);
        pictures = shows.shows.pictures;
        count = shows.shows.count ∙ sym count;
        stated = shows.shows.stated ∙ sym count;
        each = λ tile less.
            subst (λ s. IsShownTile r shows.key tile s (get_or shown.tiles.items tile Missing) (get_or shows.shows.pictures tile None)) (stands tile less)
            (shows.shows.each tile (omega (arith, less, count)));
        is_frame = shows.shows.is_frame;
      }
