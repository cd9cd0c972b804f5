-- The planes of a slice's picture have the sizes that its header tells, and those of a frame the sizes of the frame.
use Rattle.std.proofs.Common.{◌≡◌, ℕ, zero, suc, ◌+◌, ◌*◌, ◌^◌, ◌-◌, ◌<◌, ◌≤◌, Bool, true, false, List, length, map, refl, sym, ap, ◌∙◌, arith}
use Rattle.std.specs.Prelude.{not, ◌==◌, ◌&&◌, ◌||◌, if◌then◌else◌, Option, MatchBool}
use Rattle.std.proofs.lemmas.List.FromFn.{length-map-range_with_len, get_or-map-range_with_len}
use Rattle.ffv1_range.specs.Setup.{RecordingValue, IsInVersion3}
use Rattle.ffv1_range.specs.Tiles.{grid_of, chroma_rect}
use Rattle.ffv1_range.specs.declared.grid.TileRect.{TileRect}
use Rattle.ffv1_plane.specs.RangeSlices.{size_at, coded_depth_of, ArePlanesOfSizes}
use Rattle.ffv1_plane.specs.declared.planes.PlaneSize.{PlaneSize}
use Rattle.ffv1_samples.specs.States.{SliceStatesValue, count_of_planes}
use Rattle.ffv1_samples.specs.Sizes.{slice_rect, rect_size, planes_sizes, slice_sizes}
use Rattle.ffv1_samples.specs.Pictures.{slice_plane_at, AreRgbPlanes}
use Rattle.ffv1_samples.specs.Slices.{SlicePictureValue, IsSlicePicture}
use Rattle.ffv1_samples.proofs.Headers.{header_within}
use Rattle.ffv1_samples.proofs.PlaneSizes.{count_of_sizes}
use Rattle.ffv1_samples.proofs.CodedPlanes.{coded_sizes}
use Rattle.ffv1_picture.specs.Inner.Drawing.{area}
use Rattle.ffv1_player.specs.Frames.{rect_in, frame_in, patch_in, frame_plane, frame_planes}
use Rattle.ffv1_player.specs.Inner.Drawing.{AreFramePlanes, AreSlicePlanes, IsInGrid}
use Rattle.ffv1_player.proofs.Patches.{length-patched_plane}

-- ---- the sizes of a slice's planes

size_by : (is_rgb has_chroma has_alpha : Bool) (first chroma : TileRect) (p : ℕ)
    → p < (if is_rgb || has_chroma then 3 else 1) + (if has_alpha then 1 else 0)
    → size_at (planes_sizes (is_rgb || has_chroma) has_alpha (rect_size first) (rect_size (if is_rgb then first else chroma))) p
    ≡ rect_size (if (not is_rgb && has_chroma) && ((p == 1) || (p == 2)) then chroma else first)
size_by true c true first chroma zero less = refl
size_by true c true first chroma (suc zero) less = refl
size_by true c true first chroma (suc (suc zero)) less = refl
size_by true c true first chroma (suc (suc (suc zero))) less = refl
size_by true c true first chroma (suc (suc (suc (suc p)))) less = absurd (omega arith)
size_by true c false first chroma zero less = refl
size_by true c false first chroma (suc zero) less = refl
size_by true c false first chroma (suc (suc zero)) less = refl
size_by true c false first chroma (suc (suc (suc p))) less = absurd (omega arith)
size_by false true true first chroma zero less = refl
size_by false true true first chroma (suc zero) less = refl
size_by false true true first chroma (suc (suc zero)) less = refl
size_by false true true first chroma (suc (suc (suc zero))) less = refl
size_by false true true first chroma (suc (suc (suc (suc p)))) less = absurd (omega arith)
size_by false true false first chroma zero less = refl
size_by false true false first chroma (suc zero) less = refl
size_by false true false first chroma (suc (suc zero)) less = refl
size_by false true false first chroma (suc (suc (suc p))) less = absurd (omega arith)
size_by false false true first chroma zero less = refl
size_by false false true first chroma (suc zero) less = refl
size_by false false true first chroma (suc (suc p)) less = absurd (omega arith)
size_by false false false first chroma zero less = refl
size_by false false false first chroma (suc p) less = absurd (omega arith)

few_planes : (c a : Bool) → (if c then 3 else 1) + (if a then 1 else 0) ≤ 4
few_planes true true = omega arith
few_planes true false = omega arith
few_planes false true = omega arith
few_planes false false = omega arith

-- planes of RGB lie where the first lies
rgb_rect : (r : RecordingValue) (rect : TileRect) (p : ℕ) → r.is_rgb ≡ true → rect_in r p rect ≡ rect
rgb_rect r rect p is = ap (λ b. if (not b && r.setup.has_chroma) && ((p == 1) || (p == 2)) then chroma_rect (grid_of r.setup) rect else rect) is

module _ (r : RecordingValue) (version : IsInVersion3 r) (content : List ℕ) (first : Bool) (before : Option SliceStatesValue) (d : SlicePictureValue)
    (h : IsSlicePicture r content first before d) where
  rect : TileRect
  rect = slice_rect r d.header

  sizes : ArePlanesOfSizes (coded_depth_of r) (slice_sizes r d.header) h.coded
  sizes = coded_sizes r d.header.tables (slice_sizes r d.header) content h.start before h.coded h.end h.are_coded

  coded_long : (p : ℕ) → p < count_of_planes r → length (slice_plane_at h.coded p) ≡ area (rect_in r p (slice_rect r d.header))
  coded_long p less =
      (sizes.each p (omega (arith, less, count_of_sizes r d.header))).count
      ∙ ap (λ (size : PlaneSize). size.width * size.height)
      (size_by r.is_rgb r.setup.has_chroma r.has_alpha (slice_rect r d.header) (chroma_rect (grid_of r.setup) (slice_rect r d.header)) p less)

  rgb_long : (is : r.is_rgb ≡ true) (p : ℕ) → AreRgbPlanes r h.coded d.planes → p < count_of_planes r → 0 < count_of_planes r
      → length (slice_plane_at d.planes p) ≡ area (rect_in r p (slice_rect r d.header))
  rgb_long is zero k less some = k.colors.first_long ∙ coded_long 0 less
  rgb_long is (suc zero) k less some =
      k.colors.second_long ∙ coded_long 0 some ∙ ap area (rgb_rect r (slice_rect r d.header) 0 is ∙ sym (rgb_rect r (slice_rect r d.header) 1 is))
  rgb_long is (suc (suc zero)) k less some =
      k.colors.third_long ∙ coded_long 0 some ∙ ap area (rgb_rect r (slice_rect r d.header) 0 is ∙ sym (rgb_rect r (slice_rect r d.header) 2 is))
  rgb_long is (suc (suc (suc zero))) k less some = ap length k.alpha ∙ coded_long 3 less
  rgb_long is (suc (suc (suc (suc p)))) k less some = absurd (omega (arith, less, few_planes (r.is_rgb || r.setup.has_chroma) r.has_alpha))

  long_by : (b : Bool) → r.is_rgb ≡ b → MatchBool b (AreRgbPlanes r h.coded d.planes) (d.planes ≡ h.coded) → (p : ℕ) → p < count_of_planes r
      → length (slice_plane_at d.planes p) ≡ area (rect_in r p (slice_rect r d.header))
  long_by true is k p less = rgb_long is p k less (omega (arith, less))
  long_by false is k p less = ap (λ planes. length (slice_plane_at planes p)) k ∙ coded_long p less

  count_by : (b : Bool) → MatchBool b (AreRgbPlanes r h.coded d.planes) (d.planes ≡ h.coded) → length d.planes ≡ length h.coded
  count_by true k = k.count
  count_by false k = ap length k

  pub slice_planes : AreSlicePlanes r d.header d.planes
  slice_planes = record {
    count = count_by r.is_rgb h.planes ∙ sizes.count ∙ count_of_sizes r d.header;
    each = λ p less. long_by r.is_rgb refl h.planes p less;
  }

  pub in_grid : IsInGrid r d.header
  in_grid =
      let within = header_within r content first d.header h.start version h.is_header in
      record { columns = within.columns; rows = within.rows }

-- ---- the sizes of a frame's planes

pub plane_of_frame : (r : RecordingValue) (pictures : List SlicePictureValue) (p : ℕ) → p < count_of_planes r
    → slice_plane_at (frame_planes r pictures) p ≡ frame_plane r pictures p
plane_of_frame r pictures p less = get_or-map-range_with_len (frame_plane r pictures) 0 (count_of_planes r) p p _ less (omega arith)

pub count_of_frame : (r : RecordingValue) (pictures : List SlicePictureValue) → length (frame_planes r pictures) ≡ count_of_planes r
count_of_frame r pictures = length-map-range_with_len (frame_plane r pictures) 0 (count_of_planes r)

pub are_frame_planes : (r : RecordingValue) (pictures : List SlicePictureValue) (planes : List (List ℕ)) → planes ≡ frame_planes r pictures → AreFramePlanes r planes
are_frame_planes r pictures planes is =
    record {
      count = ap length is ∙ count_of_frame r pictures;
      each = λ p less.
          let long = length-patched_plane (2 ^ (r.depth - 1)) (frame_in r p).w (frame_in r p).h (map (patch_in r p) pictures) in
          ap (λ l. length (slice_plane_at l p)) is ∙ ap length (plane_of_frame r pictures p less)
          ∙ long ∙ (let e : (frame_in r p).h * (frame_in r p).w ≡ area (frame_in r p) = omega arith in e);
    }
