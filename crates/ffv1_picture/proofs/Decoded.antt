-- The pictures of tiles, drawn one after the other.
use Rattle.std.proofs.Common.{◌≡◌, ℕ, ◌+◌, ◌<◌, List, [], ◌∷◌, ◌++◌, length, map, get_or, Option, Some, None, Result, Ok, Err, IfOk, refl, sym, ap, subst, ◌∙◌, inl, inr, arith}
use Rattle.std.proofs.lemmas.Bool.{cases_order}
use Rattle.std.proofs.lemmas.List.{length-append, length-map, map-append, get_or_append_left, get_or_default, get_or_push}
use Rattle.ffv1_range.specs.Setup.{SetupValue}
use Rattle.ffv1_range.specs.Tiles.{grid_of}
use Rattle.ffv1_slice.specs.Chain.{LinkValue}
use Rattle.ffv1_slice.specs.Slices.{content_of}
use Rattle.ffv1_picture.specs.TilePictures.{SpellsPlanes}
use Rattle.ffv1_holding.specs.Contents.{Contents}
use Rattle.ffv1_holding.specs.TileState.{tile_state}
use Rattle.ffv1_picture.specs.WholePicture.{Planes}
use Rattle.ffv1_picture.specs.Frames.{planes_of, no_link, content_at, HasPicture, IsFrameOf, IsDrawnOf}
use Rattle.ffv1_picture.specs.Inner.Drawing.{DrawsOnto, DrawsAny, DrawsSlice, HasSizes}
use Rattle.ffv1_picture.specs.PartialPictures.{IsShown, ShowsTiles}
use Rattle.ffv1_picture.specs.Inner.PartialPictures.{ShowsTile}
use Rattle.ffv1_picture.specs.declared.frame.Frame.{Frame}
use Rattle.ffv1_picture.specs.declared.partial.TileOutcome.{TileOutcome}
use Rattle.ffv1_picture.specs.declared.partial.TileOutcome.TheVariants.{Missing}
use Rattle.ffv1_picture.proofs.WholePlanes.{sizes_of, drawn_frame, kept_frame}

module _ (setup : SetupValue) (links : List LinkValue) where
  pub drawn_sizes : (n : ℕ) (frame : Frame) → IsDrawnOf setup links n frame → HasSizes (grid_of setup) (planes_of frame)
  drawn_sizes n frame drawn = sizes_of setup (map Some drawn.pictures) frame drawn.is_frame

  pub drawn_more : (n spare : ℕ) (content : List ℕ) (old new : Frame) → IsDrawnOf setup links n old → content ≡ content_at links n
      → DrawsSlice setup n content old new spare → IsDrawnOf setup links (n + 1) new
  drawn_more n spare content old new before same more = record {
    pictures = before.pictures ++ more.picture ∷ [];
    count = omega (arith, length-append before.pictures (more.picture ∷ []), before.count);
    each = λ tile lt. elim (cases_order tile n) [
      | inl is ↦
          let P : Planes → Type 0 = λ p. (s : ℕ) × SpellsPlanes setup tile (content_at links tile) p s in
          let Q : ℕ → Type 0 = λ t. SpellsPlanes setup t (content_at links t) more.picture spare in
          let R : List ℕ → Type 0 = λ c. SpellsPlanes setup n c more.picture spare in
          subst P (sym (get_or_push before.pictures more.picture [] tile (before.count ∙ sym is))) (spare, subst Q (sym is) (subst R same more.is_picture))
      | inr (inl less) ↦
          let P : Planes → Type 0 = λ p. (s : ℕ) × SpellsPlanes setup tile (content_at links tile) p s in
          subst P (sym (get_or_append_left before.pictures (more.picture ∷ []) [] tile (omega (arith, before.count)))) (before.each tile less)
      | inr (inr above) ↦ absurd (omega arith)
    ];
    is_frame =
        let P : ℕ → Type 0 = λ t. DrawsOnto (grid_of setup) t more.picture old new in
        let Q : List (Option Planes) → Type 0 = λ ps. IsFrameOf setup ps new in
        subst Q (sym (map-append Some before.pictures (more.picture ∷ [])))
        (drawn_frame setup (map Some before.pictures) more.picture old new before.is_frame
        (subst P (sym (length-map before.pictures Some ∙ before.count)) more.drawn));
  }

module _ (h : Contents) where
  pub shown_sizes : (n : ℕ) (outcomes : List TileOutcome) (frame : Frame) → ShowsTiles h n outcomes frame → HasSizes (grid_of h.reel.setup) (planes_of frame)
  shown_sizes n outcomes frame shown = sizes_of h.reel.setup shown.pictures frame shown.is_frame

  with_any : (pictures : List (Option Planes)) (picture : Option Planes) (n : ℕ) (old new : Frame) → length pictures ≡ n → IsFrameOf h.reel.setup pictures old
      → DrawsAny (grid_of h.reel.setup) n picture old new → IsFrameOf h.reel.setup (pictures ++ picture ∷ []) new
  with_any pictures None n old new count is drawn =
      let P : Frame → Type 0 = λ f. IsFrameOf h.reel.setup (pictures ++ None ∷ []) f in
      subst P (sym drawn) (kept_frame h.reel.setup pictures old is)
  with_any pictures (Some picture) n old new count is drawn =
      let P : ℕ → Type 0 = λ t. DrawsOnto (grid_of h.reel.setup) t picture old new in
      drawn_frame h.reel.setup pictures picture old new is (subst P (sym count) drawn)

  pub shown_more : (n : ℕ) (outcomes : List TileOutcome) (outcome : TileOutcome) (old new : Frame) → ShowsTiles h n outcomes old
      → ShowsTile h n outcome old new → ShowsTiles h (n + 1) (outcomes ++ outcome ∷ []) new
  shown_more n outcomes outcome old new before more = record {
    pictures = before.pictures ++ more.picture ∷ [];
    count = omega (arith, length-append before.pictures (more.picture ∷ []), before.count);
    stated = omega (arith, length-append outcomes (outcome ∷ []), before.stated);
    each = λ tile lt. elim (cases_order tile n) [
      | inl is ↦
          let P : TileOutcome → Type 0 = λ o. IsShown h.reel.setup tile (tile_state h tile) o (get_or (before.pictures ++ more.picture ∷ []) tile None) in
          let Q : Option Planes → Type 0 = λ p. IsShown h.reel.setup tile (tile_state h tile) outcome p in
          let R : ℕ → Type 0 = λ t. IsShown h.reel.setup t (tile_state h t) outcome more.picture in
          subst P (sym (get_or_push outcomes outcome Missing tile (before.stated ∙ sym is)))
          (subst Q (sym (get_or_push before.pictures more.picture None tile (before.count ∙ sym is))) (subst R (sym is) more.shown))
      | inr (inl less) ↦
          let P : TileOutcome → Type 0 = λ o. IsShown h.reel.setup tile (tile_state h tile) o (get_or (before.pictures ++ more.picture ∷ []) tile None) in
          let Q : Option Planes → Type 0 = λ p. IsShown h.reel.setup tile (tile_state h tile) (get_or outcomes tile Missing) p in
          subst P (sym (get_or_append_left outcomes (outcome ∷ []) Missing tile (omega (arith, before.stated))))
          (subst Q (sym (get_or_append_left before.pictures (more.picture ∷ []) None tile (omega (arith, before.count)))) (before.each tile less))
      | inr (inr above) ↦ absurd (omega arith)
    ];
    is_frame = with_any before.pictures more.picture n old new before.count before.is_frame more.drawn;
  }

-- ---- what a call returned

-- the content of a link that was read by its place
pub same_content : (links : List LinkValue) (tile : ℕ) (link : LinkValue) (bytes : List ℕ) → tile < length links → link ≡ get_or links tile link → bytes ≡ link.bytes
    → content_of bytes ≡ content_at links tile
same_content links tile link bytes lt is same =
    ap content_of (same ∙ ap (λ (l : LinkValue). l.bytes) (sym (get_or_default links tile no_link link lt ∙ sym is)))

-- a result that is no error
pub ok_value : {X E : Type 0} (r : Result X E) (P : X → Type 0) → IfOk r P → ((e : E) → r ≡ Err e → ⊥) → (x : X) × P x
ok_value (Ok x) P is other = (x, is)
ok_value (Err e) P is other = absurd (other e refl)

-- the tiles that are drawn have pictures
pub drawn_pictures : (setup : SetupValue) (links : List LinkValue) (n : ℕ) (frame : Frame) → IsDrawnOf setup links n frame → (tile : ℕ) → tile < n
    → HasPicture setup links tile
drawn_pictures setup links n frame drawn tile lt =
    let picture = drawn.each tile lt in
    (get_or drawn.pictures tile [], picture.0, picture.1)
