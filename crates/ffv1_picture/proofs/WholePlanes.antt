-- The planes of a whole picture, sample by sample, and with the picture of one tile more.
use Rattle.std.proofs.Common.{◌≡◌, ℕ, zero, suc, ◌+◌, ◌-◌, ◌*◌, ◌/◌, ◌%◌, ◌<◌, Bool, true, false, cond, List, [], ◌∷◌, ◌++◌, length, map, get_or, replicate, Option, Some, None, unwrap_or, refl, sym, ap, ◌∙◌, arith}
use Rattle.std.specs.List.{flat_map, range_with_len}
use Rattle.std.proofs.lemmas.List.{length-append, get_or_append_left, get_or-append_right, ext_get_or, length-replicate, get_or-replicate}
use Rattle.std.proofs.lemmas.List.FromFn.{length-map-range_with_len, get_or-map-range_with_len, fill_by_all}
use Rattle.std.proofs.lemmas.Nat.{div-add-mod', mod_below, div_below, mul-add-lt}
use Rattle.ffv1_range.specs.Setup.{SetupValue}
use Rattle.ffv1_range.specs.Tiles.{GridValue, grid_of, plane_count, plane_rect, frame_rect}
use Rattle.ffv1_range.specs.declared.grid.TileRect.{TileRect}
use Rattle.ffv1_picture.specs.WholePicture.{Planes, covers, sample_in, sample_of_tile, or_else, greatest_sample, whole_sample, whole_plane}
use Rattle.ffv1_picture.specs.Frames.{planes_of, IsFrameOf}
use Rattle.ffv1_picture.specs.Drawn.{Draws}
use Rattle.ffv1_picture.specs.Inner.Drawing.{area, plane_at, DrawsOnto, HasSizes}
use Rattle.ffv1_picture.specs.declared.frame.Frame.{Frame}

-- ---- rows, one after the other

abbrev pub rows_from : (ℕ → ℕ → ℕ) → ℕ → ℕ → ℕ → List ℕ
rows_from f width first count = flat_map (λ y. map (λ x. f y x) (range_with_len 0 width)) (range_with_len first count)

pub length-rows : (f : ℕ → ℕ → ℕ) (width first count : ℕ) → length (rows_from f width first count) ≡ count * width
length-rows f width first zero = omega arith
length-rows f width first (suc count) =
    omega (
      arith,
      length-append (map (λ x. f first x) (range_with_len 0 width)) (rows_from f width (first + 1) count),
      length-map-range_with_len
          (λ x. f first x) 0 width,
      length-rows f width (first + 1) count,
    )

pub get_or-rows : (f : ℕ → ℕ → ℕ) (width first count y x : ℕ) → y < count → x < width → get_or (rows_from f width first count) (y * width + x) 0 ≡ f (first + y) x
get_or-rows f width first zero y x within inside = absurd (omega arith)
get_or-rows f width first (suc count) zero x within inside =
    let row = map (λ x. f first x) (range_with_len 0 width) in
    let rest = rows_from f width (first + 1) count in
    let long = length-map-range_with_len (λ x. f first x) 0 width in
    ap (λ k. get_or (row ++ rest) k 0) {x = zero * width + x} {y = x} (omega arith) ∙ get_or_append_left row rest 0 x (omega arith)
    ∙ get_or-map-range_with_len (λ x. f first x) 0 width x x 0 inside (omega arith) ∙ ap (λ k. f k x) {x = first} {y = first + zero} (omega arith)
get_or-rows f width first (suc count) (suc y) x within inside =
    let row = map (λ x. f first x) (range_with_len 0 width) in
    let rest = rows_from f width (first + 1) count in
    get_or-append_right row rest width (suc y * width + x) 0 (length-map-range_with_len (λ x. f first x) 0 width) (omega arith)
    ∙ ap (λ k. get_or rest k 0) {x = suc y * width + x - width} {y = y * width + x} (omega arith)
    ∙ get_or-rows f width (first + 1) count y x (omega arith) inside ∙ ap (λ k. f k x) {x = first + 1 + y} {y = first + suc y} (omega arith)

some_column : (width height k : ℕ) → k < width * height → 0 < width
some_column zero height k lt = absurd (omega arith)
some_column (suc width) height k lt = omega arith

-- samples that are those of the function at each place are its rows
pub rows_ext : (f : ℕ → ℕ → ℕ) (width height : ℕ) (samples : List ℕ) → length samples ≡ width * height
    → ((x y : ℕ) → x < width → y < height → get_or samples (y * width + x) 0 ≡ f y x) → samples ≡ rows_from f width 0 height
rows_ext f width height samples long each =
    ext_get_or 0 samples (rows_from f width 0 height) (omega (arith, length-rows f width 0 height, long)) (λ k lt.
    let below : k < width * height = omega (arith, lt, long) in
    let some : 0 < width = some_column width height k below in
    let inside : k % width < width = mod_below k width some in
    let within : k / width < height = div_below k width height some (omega arith) in
    let split : k / width * width + k % width ≡ k = div-add-mod' k width in
    ap (λ i. get_or samples i 0) (sym split) ∙ each (k % width) (k / width) inside within
    ∙ sym (get_or-rows f width 0 height (k / width) (k % width) within inside ∙ ap (λ y. f y (k % width)) {x = 0 + k / width} {y = k / width} (omega arith))
    ∙ ap (λ i. get_or (rows_from f width 0 height) i 0) split)

-- ---- planes

module _ (g : GridValue) (pictures : List (Option Planes)) (plane : ℕ) where
  pub length-whole_plane : length (whole_plane g pictures plane) ≡ area (frame_rect g plane)
  unfolding whole_plane
  length-whole_plane =
      omega (arith, length-rows (λ y x. whole_sample g pictures plane x y) (frame_rect g plane).w 0 (frame_rect g plane).h)

  pub get_or-whole_plane : (x y : ℕ) → x < (frame_rect g plane).w → y < (frame_rect g plane).h
      → get_or (whole_plane g pictures plane) (y * (frame_rect g plane).w + x) 0 ≡ whole_sample g pictures plane x y
  unfolding whole_plane
  get_or-whole_plane x y inside within =
      get_or-rows (λ y x. whole_sample g pictures plane x y) (frame_rect g plane).w 0 (frame_rect g plane).h y x within inside
      ∙ ap (λ row. whole_sample g pictures plane x row) {x = 0 + y} {y = y} (omega arith)

  pub whole_plane_ext : (samples : List ℕ) → length samples ≡ area (frame_rect g plane)
      → ((x y : ℕ) → x < (frame_rect g plane).w → y < (frame_rect g plane).h
      → get_or samples (y * (frame_rect g plane).w + x) 0 ≡ whole_sample g pictures plane x y)
      → samples ≡ whole_plane g pictures plane
  unfolding whole_plane
  whole_plane_ext samples long each = rows_ext (λ y x. whole_sample g pictures plane x y) (frame_rect g plane).w (frame_rect g plane).h samples long each

-- ---- one tile more

pub or_else_assoc : (a b c : Option ℕ) → or_else (or_else a b) c ≡ or_else a (or_else b c)
or_else_assoc (Some x) b c = refl
or_else_assoc None b c = refl

pub or_else_none : (a : Option ℕ) → or_else a None ≡ a
or_else_none (Some x) = refl
or_else_none None = refl

greatest-push : (g : GridValue) (plane x y tile : ℕ) (pictures : List (Option Planes)) (last : Option Planes)
    → greatest_sample g plane x y tile (pictures ++ last ∷ []) ≡ or_else (sample_of_tile g plane x y (tile + length pictures) last)
    (greatest_sample g plane x y tile pictures)
unfolding greatest_sample
greatest-push g plane x y tile [] last =
    ap (λ t. sample_of_tile g plane x y t last) {x = tile} {y = tile + length {A = Option Planes} []} (omega arith) ∙ sym (or_else_none _)
greatest-push g plane x y tile (picture ∷ pictures) last =
    ap (λ o. or_else o (sample_of_tile g plane x y tile picture)) (greatest-push g plane x y (tile + 1) pictures last
    ∙ ap (λ t. or_else (sample_of_tile g plane x y t last) (greatest_sample g plane x y (tile + 1) pictures)) {x = tile + 1 + length pictures} {y =
    tile + suc (length pictures)} (omega arith))
    ∙ or_else_assoc (sample_of_tile g plane x y (tile + suc (length pictures)) last) (greatest_sample g plane x y (tile + 1) pictures)
    (sample_of_tile g plane x y tile picture)

module _ (g : GridValue) (pictures : List (Option Planes)) (plane x y : ℕ) where
  none_greatest : greatest_sample g plane x y 0 (pictures ++ None ∷ []) ≡ greatest_sample g plane x y 0 pictures
  none_greatest = greatest-push g plane x y 0 pictures None

  whole_sample-push : (planes : Planes) → whole_sample g (pictures ++ Some planes ∷ []) plane x y
      ≡ cond (covers (plane_rect g (length pictures) plane) x y) (sample_in (plane_rect g (length pictures) plane) (plane_at planes plane) x y)
      (whole_sample g pictures plane x y)
  whole_sample-push planes =
      ap (λ o. unwrap_or o 128) (greatest-push g plane x y 0 pictures (Some planes)
      ∙ ap (λ t. or_else (sample_of_tile g plane x y t (Some planes)) (greatest_sample g plane x y 0 pictures)) {x = 0 + length pictures} {y =
      length pictures} (omega arith))
      ∙ by_cover (covers (plane_rect g (length pictures) plane) x y) _ (greatest_sample g plane x y 0 pictures)
    where
      by_cover : (b : Bool) (s : ℕ) (o : Option ℕ) → unwrap_or (or_else (cond b (Some s) None) o) 128 ≡ cond b s (unwrap_or o 128)
      by_cover true s o = refl
      by_cover false s o = refl

whole_plane-none : (g : GridValue) (pictures : List (Option Planes)) (plane : ℕ) → whole_plane g (pictures ++ None ∷ []) plane ≡ whole_plane g pictures plane
unfolding whole_plane
whole_plane-none g pictures plane =
    λ i. flat_map (λ y. map (λ x. unwrap_or (none_greatest g pictures plane x y i) 128) (range_with_len 0 (frame_rect g plane).w))
    (range_with_len 0 (frame_rect g plane).h)

-- a plane with a tile's samples drawn onto it
drawn_plane : (g : GridValue) (pictures : List (Option Planes)) (planes : Planes) (plane : ℕ) (old new : List ℕ) → old ≡ whole_plane g pictures plane
    → Draws (frame_rect g plane).w (plane_rect g (length pictures) plane) (plane_at planes plane) old new
    → new ≡ whole_plane g (pictures ++ Some planes ∷ []) plane
drawn_plane g pictures planes plane old new is drawn =
    let long : length old ≡ area (frame_rect g plane) = ap length is ∙ length-whole_plane g pictures plane in
    whole_plane_ext g (pictures ++ Some planes ∷ []) plane new (drawn.same_length ∙ long) (λ x y inside within.
    drawn.each x y 0 inside (omega (arith, long, mul-add-lt y (frame_rect g plane).w x (frame_rect g plane).h within inside))
    ∙ ap (λ s. cond (covers (plane_rect g (length pictures) plane) x y) (sample_in (plane_rect g (length pictures) plane) (plane_at planes plane) x y) s)
    (ap (λ xs. get_or xs (y * (frame_rect g plane).w + x) 0) is ∙ get_or-whole_plane g pictures plane x y inside within)
    ∙ sym (whole_sample-push g pictures plane x y planes))

-- ---- frames

module _ (setup : SetupValue) (pictures : List (Option Planes)) where
  length-planes : (frame : Frame) → IsFrameOf setup pictures frame → length (planes_of frame) ≡ plane_count (grid_of setup)
  length-planes frame is =
      ap length is.planes ∙ length-map-range_with_len (whole_plane (grid_of setup) pictures) 0 (plane_count (grid_of setup))

  plane_is : (frame : Frame) → IsFrameOf setup pictures frame → (plane : ℕ) → plane < plane_count (grid_of setup)
      → plane_at (planes_of frame) plane ≡ whole_plane (grid_of setup) pictures plane
  plane_is frame is plane lt =
      ap (λ planes. get_or planes plane []) is.planes ∙ get_or-map-range_with_len (whole_plane (grid_of setup) pictures) 0
      (plane_count (grid_of setup)) plane plane [] lt (omega arith)

  -- the planes of a frame are of its size
  pub sizes_of : (frame : Frame) → IsFrameOf setup pictures frame → HasSizes (grid_of setup) (planes_of frame)
  sizes_of frame is = record {
    count = length-planes frame is;
    each = λ plane lt. ap length (plane_is frame is plane lt) ∙ length-whole_plane (grid_of setup) pictures plane;
  }

  -- a frame with the picture of one tile more drawn onto it
  pub drawn_frame : (planes : Planes) (old new : Frame) → IsFrameOf setup pictures old → DrawsOnto (grid_of setup) (length pictures) planes old new
      → IsFrameOf setup (pictures ++ Some planes ∷ []) new
  drawn_frame planes old new is drawn = record {
    width = drawn.width ∙ is.width;
    height = drawn.height ∙ is.height;
    has_chroma = drawn.has_chroma ∙ is.has_chroma;
    shift_h = drawn.shift_h ∙ is.shift_h;
    shift_v = drawn.shift_v ∙ is.shift_v;
    planes = fill_by_all (whole_plane (grid_of setup) (pictures ++ Some planes ∷ [])) (planes_of new) (plane_count (grid_of setup)) []
        (drawn.planes.same_count ∙ length-planes old is)
        (λ plane lt. drawn_plane (grid_of setup) pictures planes plane (plane_at (planes_of old) plane) (plane_at (planes_of new) plane)
        (plane_is old is plane lt) (drawn.planes.each plane lt));
  }

  -- a frame with one tile more that has no picture
  pub kept_frame : (frame : Frame) → IsFrameOf setup pictures frame → IsFrameOf setup (pictures ++ None ∷ []) frame
  kept_frame frame is = record {
    width = is.width;
    height = is.height;
    has_chroma = is.has_chroma;
    shift_h = is.shift_h;
    shift_v = is.shift_v;
    planes = is.planes ∙ (λ i. map (λ plane. sym (whole_plane-none (grid_of setup) pictures plane) i) (range_with_len 0 (plane_count (grid_of setup))));
  }

-- ---- nothing drawn yet

pub blank_plane : (g : GridValue) (plane : ℕ) (size : TileRect) (samples : List ℕ) → size ≡ frame_rect g plane → samples ≡ replicate (size.w * size.h) 128
    → samples ≡ whole_plane g [] plane
unfolding greatest_sample
blank_plane g plane size samples is all =
    let same : samples ≡ replicate (area (frame_rect g plane)) 128 = all ∙ ap (λ r. replicate (r.w * r.h) 128) is in
    let long : length samples ≡ area (frame_rect g plane) = ap length same ∙ length-replicate (area (frame_rect g plane)) 128 in
    whole_plane_ext g [] plane samples long (λ x y inside within.
    ap (λ xs. get_or xs (y * (frame_rect g plane).w + x) 0) same
    ∙ get_or-replicate (area (frame_rect g plane)) (y * (frame_rect g plane).w + x) 128 0
    (mul-add-lt y (frame_rect g plane).w x (frame_rect g plane).h within inside))
