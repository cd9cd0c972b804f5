-- What is shown of a tile is its picture, and the tiles of a holding have one picture each.
use Rattle.std.proofs.Common.{◌≡◌, ◌∙◌, ℕ, ◌<◌, List, get_or, Option, Some, None, refl, sym, ap, subst, arith}
use Rattle.std.proofs.lemmas.List.{ext_get_or}
use Rattle.ffv1_range.specs.Setup.{SetupValue, IsInProfile}
use Rattle.ffv1_range.specs.Tiles.{grid_of, tile_count}
use Rattle.ffv1_slice.specs.Slices.{content_of}
use Rattle.ffv1_plane.specs.Picture.{PictureValue}
use Rattle.ffv1_plane.proofs.Pictures.{one_reading_is}
use Rattle.ffv1_holding.specs.Contents.{Contents}
use Rattle.ffv1_holding.specs.TileState.{StateOfTile, missing, settled, disputed, tile_state}
use Rattle.ffv1_picture.specs.WholePicture.{Planes}
use Rattle.ffv1_picture.specs.TilePictures.{IsPictureOfSlice}
use Rattle.ffv1_picture.specs.Frames.{IsFrameOf}
use Rattle.ffv1_picture.specs.PartialPictures.{IsShown, IsPictureOfTile, ArePicturesOf, IsPartialPicture}
use Rattle.ffv1_picture.specs.declared.partial.Partial.{Partial}
use Rattle.ffv1_picture.specs.declared.partial.TileOutcome.{TileOutcome}
use Rattle.ffv1_picture.specs.declared.partial.TileOutcome.TheVariants.{Decoded, Missing, Disputed, Fault}

pub shown_picture : (setup : SetupValue) (tile : ℕ) (state : StateOfTile) (outcome : TileOutcome) (picture : Option Planes)
    → IsShown setup tile state outcome picture
    → IsPictureOfTile setup tile state picture
shown_picture setup tile (settled slice) (Decoded spare) (Some planes) shown = (spare, shown)
shown_picture setup tile (settled slice) (Fault cause) None shown = shown.no_picture
shown_picture setup tile missing Missing None shown = refl
shown_picture setup tile (disputed n) (Disputed slices) None shown = refl
shown_picture setup tile state outcome picture shown = absurd shown

module _ (setup : SetupValue) (profile : IsInProfile setup) (tile : ℕ) (lt : tile < tile_count (grid_of setup)) where
  same_of_slice : (slice : List ℕ) (a b : Option Planes) → IsPictureOfSlice setup tile slice a → IsPictureOfSlice setup tile slice b → a ≡ b
  same_of_slice slice (Some a) (Some b) one other =
      ap (λ (p : PictureValue). Some p.planes) (one_reading_is.pictures setup tile (content_of slice) _ _ profile lt one.1 other.1)
  same_of_slice slice (Some a) None one none = absurd (none a one.0 one.1)
  same_of_slice slice None (Some b) none other = absurd (none b other.0 other.1)
  same_of_slice slice None None none other = refl

  pub one_picture : (state : StateOfTile) (a b : Option Planes) → IsPictureOfTile setup tile state a → IsPictureOfTile setup tile state b → a ≡ b
  one_picture missing a b one other = one ∙ sym other
  one_picture (settled slice) a b one other = same_of_slice slice a b one other
  one_picture (disputed n) a b one other = one ∙ sym other

pub one_partial : (h : Contents) → IsInProfile h.reel.setup → (pictures : List (Option Planes)) → ArePicturesOf h pictures → (partial : Partial)
    → IsPartialPicture h partial
    → IsFrameOf h.reel.setup pictures partial.frame
one_partial h profile pictures are partial shown =
    let same : shown.pictures ≡ pictures =
    ext_get_or None shown.pictures pictures (shown.count ∙ sym are.count) (λ tile lt.
    let inside : tile < tile_count (grid_of h.reel.setup) = omega (arith, lt, shown.count) in
    one_picture h.reel.setup profile tile inside (tile_state h tile) _ _
    (shown_picture h.reel.setup tile (tile_state h tile) (get_or partial.tiles.items tile Missing) (get_or shown.pictures tile None)
    (shown.each tile inside)) (are.each tile inside)) in
    subst (λ (ps : List (Option Planes)). IsFrameOf h.reel.setup ps partial.frame) same shown.is_frame
