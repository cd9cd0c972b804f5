-- The planes of a frame of the profile are those of any recording: the greatest tile that covers a place is the last slice that does.
use Rattle.std.proofs.Common.{◌≡◌, ℕ, zero, suc, ◌+◌, ◌-◌, ◌^◌, ◌<◌, Bool, true, false, List, [], ◌∷◌, length, map, get_or, Option, Some, None, unwrap_or, refl, sym, ap, subst, ◌∙◌, arith}
use Rattle.std.specs.Prelude.{◌==◌, ◌&&◌, ◌||◌, not, slice_index_or, if◌then◌else◌}
use Rattle.std.specs.List.{flat_map, range_with_len, cons_option}
use Rattle.std.proofs.Math.Path.{fun_ext}
use Rattle.std.proofs.lemmas.List.{ext_get_or, length-map}
use Rattle.std.proofs.lemmas.List.FromFn.{length-map-range_with_len, get_or-map-range_with_len}
use Rattle.ffv1_range.specs.Setup.{RecordingValue, IsOfProfile}
use Rattle.ffv1_range.specs.Tiles.{GridValue, grid_of, plane_count, tile_rect, plane_rect, rect_in_plane, frame_rect, chroma_rect}
use Rattle.ffv1_range.specs.declared.grid.TileRect.{TileRect}
use Rattle.ffv1_picture.specs.WholePicture.{Planes, or_else, sample_of_tile, greatest_sample, whole_sample, whole_plane, whole_picture}
use Rattle.ffv1_samples.specs.Sizes.{slice_rect}
use Rattle.ffv1_samples.specs.Pictures.{slice_plane_at}
use Rattle.ffv1_samples.specs.Slices.{SlicePictureValue}
use Rattle.ffv1_samples.proofs.TileSlices.{planes_count}
use Rattle.ffv1_player.specs.Patches.{patch_of, sample_of_patch, last_sample, patched_sample, patched_plane}
use Rattle.ffv1_player.specs.Frames.{rect_in, patch_in, frame_plane, frame_planes}
use Rattle.ffv1_picture.proofs.WholePlanes.{or_else_none}
use Rattle.ffv1_player.specs.Shown.{present}
use Rattle.ffv1_player.proofs.Sizes.{count_of_frame, plane_of_frame}

-- The picture of a slice is that of a tile: it lies in the tile's place, and has the tile's planes.
pub record IsPictureAt (r : RecordingValue) (tile : ℕ) (planes : Planes) (slice : SlicePictureValue) : Type 0 where
  pub rect : slice_rect r slice.header ≡ tile_rect (grid_of r.setup) tile
  pub planes_are : slice.planes ≡ planes

-- Neither has a picture, or both have.
abbrev pub AreAlike : RecordingValue → ℕ → Option Planes → Option SlicePictureValue → Type 0
AreAlike r tile None None = Unit {0}
AreAlike r tile (Some planes) (Some slice) = IsPictureAt r tile planes slice
AreAlike r tile picture slice = ⊥

some_alike : (r : RecordingValue) (pictures : List Planes) (slices : List SlicePictureValue) (tile : ℕ) → length pictures ≡ length slices
    → ((k : ℕ) (d : SlicePictureValue) → k < length slices → IsPictureAt r (tile + k) (get_or pictures k []) (get_or slices k d))
    → (k : ℕ) → k < length slices → AreAlike r (tile + k) (get_or (map Some pictures) k None) (get_or (map Some slices) k None)
some_alike r [] [] tile long each k less = absurd (omega (arith, less))
some_alike r [] (slice ∷ slices) tile long each k less = absurd (omega (arith, long))
some_alike r (planes ∷ pictures) [] tile long each k less = absurd (omega (arith, long))
some_alike r (planes ∷ pictures) (slice ∷ slices) tile long each zero less = each 0 slice less
some_alike r (planes ∷ pictures) (slice ∷ slices) tile long each (suc k) less =
    let next : (j : ℕ) → tile + suc j ≡ suc tile + j = λ j. omega arith in
    subst (λ t. AreAlike r t (get_or (map Some pictures) k None) (get_or (map Some slices) k None)) (sym (next k))
    (some_alike r pictures slices (suc tile) (omega (arith, long))
    (λ j d inside. subst (λ t. IsPictureAt r t (get_or pictures j []) (get_or slices j d)) (next j) (each (suc j) d (omega (arith, inside)))) k
    (omega (arith, less)))

present-some : (slices : List SlicePictureValue) → present (map Some slices) ≡ slices
present-some [] = refl
present-some (slice ∷ slices) = ap (λ more. slice ∷ more) (present-some slices)

module _ (r : RecordingValue) (profile : IsOfProfile r) where
  rect_as : (p : ℕ) (rect : TileRect) → p < plane_count (grid_of r.setup) → rect_in r p rect ≡ rect_in_plane (grid_of r.setup) p rect
  rect_as p rect less =
      ap (λ b. if (not b && r.setup.has_chroma) && ((p == 1) || (p == 2)) then chroma_rect (grid_of r.setup) rect else rect) profile.is_rgb
      ∙ by_plane r.setup.has_chroma p less
    where
      by_plane : (b : Bool) (p : ℕ) → p < (if b then 3 else 1)
          → (if b && ((p == 1) || (p == 2)) then chroma_rect (grid_of r.setup) rect else rect) ≡ rect_in_plane (grid_of r.setup) p rect
      by_plane true zero less = refl
      by_plane true (suc zero) less = refl
      by_plane true (suc (suc zero)) less = refl
      by_plane true (suc (suc (suc p))) less = absurd (omega (arith, less))
      by_plane false zero less = refl
      by_plane false (suc p) less = absurd (omega (arith, less))

  module _ (p : ℕ) (less : p < plane_count (grid_of r.setup)) where
    patch_is : (tile : ℕ) (planes : Planes) (slice : SlicePictureValue) → IsPictureAt r tile planes slice
        → patch_in r p slice ≡ patch_of (plane_rect (grid_of r.setup) tile p) (slice_index_or planes p [])
    patch_is tile planes slice h =
        ap (λ rect. patch_of rect (slice_plane_at slice.planes p)) (rect_as p (slice_rect r slice.header) less ∙ ap (rect_in_plane (grid_of r.setup) p) h.rect)
        ∙ ap (λ l. patch_of (plane_rect (grid_of r.setup) tile p) (slice_plane_at l p)) h.planes_are

    -- what a tile adds its slice does
    adds : (x y tile : ℕ) (picture : Option Planes) (slice : Option SlicePictureValue) (before : List SlicePictureValue) → AreAlike r tile picture slice
        → or_else (last_sample x y (map (patch_in r p) before)) (sample_of_tile (grid_of r.setup) p x y tile picture)
        ≡ last_sample x y (map (patch_in r p) (cons_option slice before))
    unfolding last_sample
    adds x y tile None None before alike = or_else_none (last_sample x y (map (patch_in r p) before))
    adds x y tile (Some planes) (Some slice) before alike =
        ap (λ patch. or_else (last_sample x y (map (patch_in r p) before)) (sample_of_patch x y patch)) (sym (patch_is tile planes slice alike))
    adds x y tile picture slice before alike = absurd alike

    greatest_is_last : (x y tile : ℕ) (pictures : List (Option Planes)) (slices : List (Option SlicePictureValue)) → length pictures ≡ length slices
        → ((k : ℕ) → k < length slices → AreAlike r (tile + k) (get_or pictures k None) (get_or slices k None))
        → greatest_sample (grid_of r.setup) p x y tile pictures ≡ last_sample x y (map (patch_in r p) (present slices))
    unfolding greatest_sample last_sample
    greatest_is_last x y tile [] [] long each = refl
    greatest_is_last x y tile [] (slice ∷ slices) long each = absurd (omega (arith, long))
    greatest_is_last x y tile (picture ∷ pictures) [] long each = absurd (omega (arith, long))
    greatest_is_last x y tile (picture ∷ pictures) (slice ∷ slices) long each =
        let next : (k : ℕ) → tile + suc k ≡ tile + 1 + k = λ k. omega arith in
        let here : tile + 0 ≡ tile = omega arith in
        ap (λ o. or_else o (sample_of_tile (grid_of r.setup) p x y tile picture))
        (greatest_is_last x y (tile + 1) pictures slices (omega (arith, long))
        (λ k inside. subst (λ t. AreAlike r t (get_or pictures k None) (get_or slices k None)) (next k) (each (suc k) (omega (arith, inside)))))
        ∙ adds x y tile picture slice (present slices) (subst (λ t. AreAlike r t picture slice) here (each 0 (omega arith)))

    module _ (pictures : List (Option Planes)) (slices : List (Option SlicePictureValue)) (long : length pictures ≡ length slices)
        (each : (k : ℕ) → k < length slices → AreAlike r k (get_or pictures k None) (get_or slices k None)) where
      sample_is : (x y : ℕ) → whole_sample (grid_of r.setup) pictures p x y
          ≡ patched_sample (2 ^ (r.depth - 1)) (map (patch_in r p) (present slices)) x y
      sample_is x y =
          let here : (k : ℕ) → k ≡ 0 + k = λ k. omega arith in
          ap (λ o. unwrap_or o 128)
          (greatest_is_last x y 0 pictures slices long
          (λ k inside. subst (λ t. AreAlike r t (get_or pictures k None) (get_or slices k None)) (here k) (each k inside)))
          ∙ ap (λ d. unwrap_or (last_sample x y (map (patch_in r p) (present slices))) (2 ^ (d - 1))) (sym profile.depth)

      plane_is : whole_plane (grid_of r.setup) pictures p ≡ frame_plane r (present slices) p
      unfolding whole_plane patched_plane
      plane_is =
          ap (λ (f : ℕ → ℕ → ℕ). flat_map (λ y. map (λ x. f x y) (range_with_len 0 (frame_rect (grid_of r.setup) p).w)) (range_with_len 0 (frame_rect (grid_of r.setup) p).h))
          (fun_ext λ x. fun_ext λ y. sample_is x y)
          ∙ ap (λ (z : TileRect). patched_plane (2 ^ (r.depth - 1)) z.w z.h (map (patch_in r p) (present slices))) (sym (rect_as p whole less))
        where
          whole : TileRect
          whole = record { x = 0; y = 0; w = r.setup.width; h = r.setup.height }

  -- The picture of the tiles is the frame of their slices.
  pub alike_planes : (pictures : List (Option Planes)) (slices : List (Option SlicePictureValue)) → length pictures ≡ length slices
      → ((k : ℕ) → k < length slices → AreAlike r k (get_or pictures k None) (get_or slices k None))
      → whole_picture (grid_of r.setup) pictures ≡ frame_planes r (present slices)
  alike_planes pictures slices long each =
      let g : GridValue = grid_of r.setup in
      let count : length (whole_picture g pictures) ≡ plane_count g = length-map-range_with_len (whole_plane g pictures) 0 (plane_count g) in
      ext_get_or [] (whole_picture g pictures) (frame_planes r (present slices)) (count ∙ sym (count_of_frame r (present slices) ∙ planes_count r profile)) (λ p less.
      let inside : p < plane_count g = omega (arith, less, count) in
      get_or-map-range_with_len (whole_plane g pictures) 0 (plane_count g) p p [] inside (omega arith)
      ∙ plane_is p inside pictures slices long each
      ∙ sym (plane_of_frame r (present slices) p (omega (arith, inside, planes_count r profile))))

  -- The same where each tile has a picture.
  pub planes_are : (pictures : List Planes) (slices : List SlicePictureValue) → length pictures ≡ length slices
      → ((k : ℕ) (d : SlicePictureValue) → k < length slices → IsPictureAt r k (get_or pictures k []) (get_or slices k d))
      → whole_picture (grid_of r.setup) (map Some pictures) ≡ frame_planes r slices
  planes_are pictures slices long each =
      let all = length-map pictures (λ (planes : Planes). Some planes) in
      let every = length-map slices (λ (slice : SlicePictureValue). Some slice) in
      let here : (k : ℕ) → 0 + k ≡ k = λ k. omega arith in
      alike_planes (map Some pictures) (map Some slices) (all ∙ long ∙ sym every) (λ k less.
      subst (λ t. AreAlike r t (get_or (map Some pictures) k None) (get_or (map Some slices) k None)) (here k)
      (some_alike r pictures slices 0 long (λ j d inside. subst (λ t. IsPictureAt r t (get_or pictures j []) (get_or slices j d)) (sym (here j)) (each j d inside)) k
      (omega (arith, less, every))))
      ∙ ap (frame_planes r) (present-some slices)
