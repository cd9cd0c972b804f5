-- A plane that is put together from rectangles of samples (RFC 9043, section 4.6; own: what stands where rectangles overlap, or where none lies).
use Rattle.std.specs.Prelude.{ℕ, List, [], ◌∷◌, map, Option, Some, None, unwrap_or, if◌then◌else◌}
use Rattle.std.specs.List.{flat_map, range_with_len}
use Rattle.ffv1_range.specs.declared.grid.TileRect.{TileRect}
use Rattle.ffv1_picture.specs.WholePicture.{covers, sample_in, or_else}

-- a rectangle of samples, row by row
pub record SlicePatch : Type 0 where
  pub rect : TileRect
  pub samples : List ℕ

abbrev pub patch_of : TileRect → List ℕ → SlicePatch
patch_of rect samples = record { rect = rect; samples = samples }

-- the sample at a place, where the rectangle covers it
abbrev pub sample_of_patch : ℕ → ℕ → SlicePatch → Option ℕ
sample_of_patch x y patch = if covers patch.rect x y then Some (sample_in patch.rect patch.samples x y) else None

-- that of the last rectangle which covers the place
unfoldable pub last_sample : ℕ → ℕ → List SlicePatch → Option ℕ
last_sample x y [] = None
last_sample x y (patch ∷ patches) = or_else (last_sample x y patches) (sample_of_patch x y patch)

-- and where none does, one sample for all
abbrev pub patched_sample : ℕ → List SlicePatch → ℕ → ℕ → ℕ
patched_sample blank patches x y = unwrap_or (last_sample x y patches) blank

-- the plane, row by row
unfoldable pub patched_plane : ℕ → ℕ → ℕ → List SlicePatch → List ℕ
patched_plane blank width height patches = flat_map (λ y. map (λ x. patched_sample blank patches x y) (range_with_len 0 width)) (range_with_len 0 height)
