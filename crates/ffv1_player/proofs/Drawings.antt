-- The picture of a slice drawn onto the planes of a frame, one plane after the other.
use Rattle.std.proofs.Common.{◌≡◌, ℕ, ◌+◌, ◌-◌, ◌^◌, ◌<◌, ◌≤◌, Bool, true, false, List, [], ◌∷◌, ◌++◌, length, map, sym, ap, ◌∙◌, arith}
use Rattle.std.specs.Prelude.{if◌then◌else◌}
use Rattle.std.specs.Int.{div_ceil}
use Rattle.std.proofs.lemmas.Nat.{pow_pos}
use Rattle.std.proofs.lemmas.List.{map-append, ext_get_or}
use Rattle.std.proofs.Math.Nat.{mul-le-mul_right}
use Rattle.ffv1_range.specs.Setup.{RecordingValue, IsInVersion3}
use Rattle.ffv1_range.specs.Tiles.{grid_of, part_start, chroma_rect}
use Rattle.ffv1_range.specs.declared.grid.TileRect.{TileRect}
use Rattle.ffv1_range.specs.declared.head.SliceHeader.{SliceHeader}
use Rattle.ffv1_range.proofs.TileLaws.{part_within}
use Rattle.ffv1_picture.specs.Drawn.{FitsIn}
use Rattle.ffv1_picture.specs.Inner.Drawing.{area}
use Rattle.ffv1_picture.proofs.Drawings.{DrawsPlanes, ceil_fits}
use Rattle.ffv1_samples.specs.States.{count_of_planes}
use Rattle.ffv1_samples.specs.Sizes.{slice_rect}
use Rattle.ffv1_samples.specs.Pictures.{slice_plane_at}
use Rattle.ffv1_samples.specs.Slices.{SlicePictureValue}
use Rattle.ffv1_player.specs.Patches.{patched_plane}
use Rattle.ffv1_player.specs.Frames.{is_subsampled, rect_in, frame_in, patch_in, frame_planes}
use Rattle.ffv1_player.specs.Inner.Drawing.{IsInGrid}
use Rattle.ffv1_player.proofs.Patches.{drawn_plane}
use Rattle.ffv1_player.proofs.Sizes.{plane_of_frame, count_of_frame}

-- ---- a slice lies in its frame

-- some parts of a length end in it
parts_end : (len n i k : ℕ) → 0 < n → i + k ≤ n → part_start len n i + (part_start len n (i + k) - part_start len n i) ≤ len
parts_end len n i k some inside =
    let begins : part_start len n i ≤ len = part_within len n i some (omega arith) in
    let ends : part_start len n (i + k) ≤ len = part_within len n (i + k) some inside in
    omega (arith, begins, ends)

module _ (r : RecordingValue) (version : IsInVersion3 r) (header : SliceHeader) (inside : IsInGrid r header) where
  abbrev rect : TileRect
  rect = slice_rect r header

  abbrev frame : TileRect
  frame = record { x = 0; y = 0; w = r.setup.width; h = r.setup.height }

  wide : rect.x + rect.w ≤ r.setup.width
  wide = parts_end r.setup.width r.setup.across header.x header.w version.some_across inside.columns

  high : rect.y + rect.h ≤ r.setup.height
  high = parts_end r.setup.height r.setup.down header.y header.h version.some_down inside.rows

  fits_by : (b : Bool) → FitsIn (if b then chroma_rect (grid_of r.setup) frame else frame).w (area (if b then chroma_rect (grid_of r.setup) frame else frame))
      (if b then chroma_rect (grid_of r.setup) rect else rect)
  fits_by false = record { in_width = wide; in_height = omega (arith, mul-le-mul_right r.setup.width high) }
  fits_by true =
      let low = ceil_fits (2 ^ r.setup.shift_v) rect.y rect.h r.setup.height (pow_pos r.setup.shift_v) high in
      record {
        in_width = ceil_fits (2 ^ r.setup.shift_h) rect.x rect.w r.setup.width (pow_pos r.setup.shift_h) wide;
        in_height = omega (arith, mul-le-mul_right (div_ceil r.setup.width (2 ^ r.setup.shift_h)) low);
      }

  pub rect_fits : (p : ℕ) → FitsIn (frame_in r p).w (area (frame_in r p)) (rect_in r p (slice_rect r header))
  rect_fits p = fits_by (is_subsampled r p)

-- ---- a frame with one picture more

pub frame_drawn : (r : RecordingValue) (d : SlicePictureValue) (pictures : List SlicePictureValue) (old new : List (List ℕ))
    → DrawsPlanes (λ p. (frame_in r p).w) (λ p. rect_in r p (slice_rect r d.header)) (count_of_planes r) d.planes old new → old ≡ frame_planes r pictures → new ≡ frame_planes r (pictures ++ d ∷ [])
frame_drawn r d pictures old new drawn is =
    let count : length new ≡ count_of_planes r = drawn.same_count ∙ ap length is ∙ count_of_frame r pictures in
    ext_get_or [] new (frame_planes r (pictures ++ d ∷ [])) (count ∙ sym (count_of_frame r (pictures ++ d ∷ []))) (λ p less.
    let inside : p < count_of_planes r = omega (arith, less, count) in
    drawn_plane (2 ^ (r.depth - 1)) (frame_in r p).w (frame_in r p).h (map (patch_in r p) pictures) (rect_in r p (slice_rect r d.header)) (slice_plane_at d.planes p)
    (slice_plane_at old p) (slice_plane_at new p) (ap (λ l. slice_plane_at l p) is ∙ plane_of_frame r pictures p inside) (drawn.each p inside)
    ∙ ap (patched_plane (2 ^ (r.depth - 1)) (frame_in r p).w (frame_in r p).h) (sym (map-append (patch_in r p) pictures (d ∷ [])))
    ∙ sym (plane_of_frame r (pictures ++ d ∷ []) p inside))
