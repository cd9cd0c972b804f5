-- What is shown of a tile depends on its own slices alone.
use Rattle.std.proofs.Common.{◌≡◌, ◌≢◌, ◌∙◌, ℕ, zero, suc, ◌+◌, ◌-◌, ◌*◌, ◌<◌, ◌≤◌, false, cond, List, [], ◌∷◌, length, get_or, Option, Some, None, refl, sym, ap, subst, arith, ⊎_elim}
use Rattle.std.specs.Prelude.{unwrap_or}
use Rattle.std.proofs.lemmas.Bool.{cases_eq}
use Rattle.std.proofs.lemmas.List.FromFn.{get_or-map-range_with_len}
use Rattle.ffv1_range.specs.Setup.{SetupValue, IsInProfile}
use Rattle.ffv1_range.specs.Tiles.{GridValue, grid_of, tile_count, plane_count, plane_rect, frame_rect}
use Rattle.ffv1_slice.specs.Slices.{content_of}
use Rattle.ffv1_plane.proofs.OneStuck.{one_result}
use Rattle.ffv1_plane.proofs.Pictures.{one_reading_is}
use Rattle.ffv1_holding.specs.TileState.{StateOfTile, missing, settled, disputed, tile_state}
use Rattle.ffv1_picture.specs.WholePicture.{Planes, covers, sample_in, sample_of_tile, greatest_sample, whole_sample, whole_plane}
use Rattle.ffv1_picture.specs.Frames.{IsFrameOf}
use Rattle.ffv1_picture.specs.PartialPictures.{IsShown}
use Rattle.ffv1_picture.specs.TileAlone.{CoversAlone, frame_sample, TileAlone}
use Rattle.ffv1_picture.specs.declared.frame.Frame.{Frame}
use Rattle.ffv1_picture.specs.declared.partial.TileOutcome.{TileOutcome}
use Rattle.ffv1_picture.specs.declared.partial.TileOutcome.TheVariants.{Decoded, Missing, Disputed, Fault}
use Rattle.ffv1_picture.proofs.OnePicture.{shown_picture, one_picture}
use Rattle.ffv1_picture.proofs.WholePlanes.{get_or-whole_plane, or_else_none}

-- ---- outcomes

module _ (setup : SetupValue) (profile : IsInProfile setup) (tile : ℕ) (lt : tile < tile_count (grid_of setup)) where
  decoded_one : (slice : List ℕ) (spare : ℕ) (planes : Planes) (outcome : TileOutcome) (picture : Option Planes)
      → IsShown setup tile (settled slice) (Decoded spare) (Some planes) → IsShown setup tile (settled slice) outcome picture → Decoded spare ≡ outcome
  decoded_one slice spare planes (Decoded bits) (Some others) one other =
      ap (λ p. Decoded p.spare_bits) (one_reading_is.pictures setup tile (content_of slice) _ _ profile lt one other)
  decoded_one slice spare planes (Fault cause) None one other = absurd (other.no_picture planes spare one)
  decoded_one slice spare planes outcome picture one other = absurd other

  fault_one : (slice : List ℕ) (outcome : TileOutcome) (picture : Option Planes) (cause : _) → IsShown setup tile (settled slice) (Fault cause) None
      → IsShown setup tile (settled slice) outcome picture → Fault cause ≡ outcome
  fault_one slice (Decoded bits) (Some others) cause one other = absurd (one.no_picture others bits other)
  fault_one slice (Fault stated) None cause one other = ap Fault (one_result.one_fault setup tile
      (content_of slice) cause stated profile lt one.is_cause other.is_cause)
  fault_one slice outcome picture cause one other = absurd other

  missing_one : (outcome : TileOutcome) (picture : Option Planes) → IsShown setup tile missing outcome picture → Missing ≡ outcome
  missing_one Missing None other = refl
  missing_one outcome picture other = absurd other

  disputed_one : (n slices : ℕ) (outcome : TileOutcome) (picture : Option Planes) → slices ≡ n → IsShown setup tile (disputed n) outcome picture
      → Disputed slices ≡ outcome
  disputed_one n slices (Disputed count) None one other = ap Disputed (one ∙ sym other)
  disputed_one n slices outcome picture one other = absurd other

  one_outcome : (state : StateOfTile) (a b : TileOutcome) (p q : Option Planes) → IsShown setup tile state a p → IsShown setup tile state b q → a ≡ b
  one_outcome (settled slice) (Decoded spare) b (Some planes) q one other = decoded_one slice spare planes b q one other
  one_outcome (settled slice) (Fault cause) b None q one other = fault_one slice b q cause one other
  one_outcome missing Missing b None q one other = missing_one b q other
  one_outcome (disputed n) (Disputed slices) b None q one other = disputed_one n slices b q one other
  one_outcome state a b p q one other = absurd one

-- ---- samples

module _ (g : GridValue) (plane x y : ℕ) where
  uncovered : (tile : ℕ) (picture : Option Planes) → covers (plane_rect g tile plane) x y ≡ false → sample_of_tile g plane x y tile picture ≡ None
  uncovered tile None h = refl
  uncovered tile (Some planes) h = ap (λ b. cond b (Some (sample_in (plane_rect g tile plane) (get_or planes plane []) x y)) None) h

  none_greatest : (pictures : List (Option Planes)) (first : ℕ) → ((o : ℕ) → first ≤ o → o < first + length pictures
      → covers (plane_rect g o plane) x y ≡ false) → greatest_sample g plane x y first pictures ≡ None
  unfolding greatest_sample
  none_greatest [] first h = refl
  none_greatest (picture ∷ pictures) first h =
      let later : greatest_sample g plane x y (first + 1) pictures ≡ None =
      none_greatest pictures (first + 1) (λ o low high. h o (omega arith) (omega arith)) in
      let here : sample_of_tile g plane x y first picture ≡ None = uncovered first picture (h first (omega arith) (omega arith)) in
      rw (later, here) refl

  alone_greatest : (pictures : List (Option Planes)) (first tile : ℕ) → first ≤ tile → tile < first + length pictures
      → ((o : ℕ) → first ≤ o → o < first + length pictures → o ≢ tile → covers (plane_rect g o plane) x y ≡ false)
      → greatest_sample g plane x y first pictures ≡ sample_of_tile g plane x y tile (get_or pictures (tile - first) None)
  unfolding greatest_sample
  alone_greatest [] first tile low high h = absurd (omega arith)
  alone_greatest (picture ∷ pictures) first tile low high h = ⊎_elim
      (λ same.
      let later : greatest_sample g plane x y (first + 1) pictures ≡ None =
      none_greatest pictures (first + 1) (λ o above below. h o (omega arith) (omega arith) (λ e. absurd (omega (arith, e, same, above)))) in
      let none : tile - first ≡ zero = omega (arith, same) in
      rw (later, none) (ap (λ t. sample_of_tile g plane x y t picture) same))
      (λ other.
      let later = alone_greatest pictures (first + 1) tile (omega arith) (omega arith) (λ o above below differs. h o (omega arith) (omega arith) differs) in
      let here : sample_of_tile g plane x y first picture ≡ None = uncovered first picture (h first (omega arith) (omega arith) other) in
      let more : tile - first ≡ suc (tile - (first + 1)) = omega arith in
      rw (here, more) (or_else_none (greatest_sample g plane x y (first + 1) pictures) ∙ later))
      (cases_eq first tile)

frame_sample_is : (setup : SetupValue) (pictures : List (Option Planes)) (frame : Frame) (plane x y : ℕ) → IsFrameOf setup pictures frame
    → plane < plane_count (grid_of setup) → x < (frame_rect (grid_of setup) plane).w → y < (frame_rect (grid_of setup) plane).h
    → frame_sample (grid_of setup) frame plane x y ≡ whole_sample (grid_of setup) pictures plane x y
frame_sample_is setup pictures frame plane x y is there inside within =
    let g = grid_of setup in
    ap (λ (l : Planes). get_or (get_or l plane []) (y * (frame_rect g plane).w + x) 0) is.planes
    ∙ ap (λ (l : List ℕ). get_or l (y * (frame_rect g plane).w + x) 0)
    (get_or-map-range_with_len (whole_plane g pictures) 0 (plane_count g) plane plane [] there (omega arith))
    ∙ get_or-whole_plane g pictures plane x y inside within

whole_alone : (g : GridValue) (plane x y tile : ℕ) (pictures others : List (Option Planes)) → length pictures ≡ tile_count g → length others ≡ tile_count g
    → tile < tile_count g → CoversAlone g tile plane x y
    → get_or pictures tile None ≡ get_or others tile None → whole_sample g pictures plane x y ≡ whole_sample g others plane x y
whole_alone g plane x y tile pictures others count also lt is same =
    let none : tile - 0 ≡ tile = omega arith in
    let first = alone_greatest g plane x y pictures 0 tile (omega arith) (omega (arith, lt, count))
    (λ o low high differs. is.alone o (omega (arith, high, count)) differs) in
    let second = alone_greatest g plane x y others 0 tile (omega arith) (omega (arith, lt, also))
    (λ o low high differs. is.alone o (omega (arith, high, also)) differs) in
    let there : get_or pictures (tile - 0) None ≡ get_or others (tile - 0) None = rw none same in
    ap (λ o. unwrap_or o 128) (first ∙ ap (sample_of_tile g plane x y tile) there ∙ sym second)

pub tile_alone : TileAlone
tile_alone h k one other tile reels profile lt states shown also =
    let setup = h.reel.setup in
    let setups : k.reel.setup ≡ setup = ap (λ r. r.setup) (sym reels) in
    let other_each : IsShown setup tile (tile_state h tile) (get_or other.tiles.items tile Missing) (get_or also.pictures tile None) =
    subst (λ (state : StateOfTile). IsShown setup tile state (get_or other.tiles.items tile Missing) (get_or also.pictures tile None)) (sym states)
    (subst (λ (s : SetupValue). IsShown s tile (tile_state k tile) (get_or other.tiles.items tile Missing) (get_or also.pictures tile None)) setups
    (also.each tile (subst (λ (s : SetupValue). tile < tile_count (grid_of s)) (sym setups) lt))) in
    let one_each = shown.each tile lt in
    let other_frame : IsFrameOf setup also.pictures other.frame = subst (λ (s : SetupValue). IsFrameOf s also.pictures other.frame) setups also.is_frame in
    let other_count : length also.pictures ≡ tile_count (grid_of setup) =
    subst (λ (s : SetupValue). length also.pictures ≡ tile_count (grid_of s)) setups also.count in
    let same : get_or shown.pictures tile None ≡ get_or also.pictures tile None =
    one_picture setup profile tile lt (tile_state h tile) _ _ (shown_picture setup tile (tile_state h tile) _ _ one_each)
    (shown_picture setup tile (tile_state h tile) _ _ other_each) in
    record {
      outcome = one_outcome setup profile tile lt (tile_state h tile) _ _ _ _ one_each other_each;
      samples = λ plane x y there inside within is.
          frame_sample_is setup shown.pictures one.frame plane x y shown.is_frame there inside within
          ∙ whole_alone (grid_of setup) plane x y tile shown.pictures also.pictures shown.count other_count lt is same
          ∙ sym (frame_sample_is setup also.pictures other.frame plane x y other_frame there inside within);
    }
