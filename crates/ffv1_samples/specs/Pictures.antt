-- The picture of coded planes: those of RGB are coded of the picture's G, B and R, and others are the picture's own (RFC 9043, section 3.7).
use Rattle.std.specs.Prelude.{◌≡◌, ℕ, ◌<◌, ◌≤◌, ◌^◌, ◌⊎◌, List, [], length, slice_index, slice_index_or, MatchBool}
use Rattle.ffv1_range.specs.Setup.{RecordingValue}
use Rattle.ffv1_colors.specs.Colors.{CodingValue, are_swapped, colors_of, IsColor, IsFirstOutside}
use Rattle.ffv1_colors.specs.Planes.{ThreePlanes, coded_at, AreColorsOf}

abbrev pub color_coding : RecordingValue → CodingValue
color_coding r = record { depth = r.depth; is_swapped = are_swapped r.depth r.has_alpha }

-- the samples of a plane, row by row
abbrev pub slice_plane_at : List (List ℕ) → ℕ → List ℕ
slice_plane_at planes p = slice_index_or planes p []

abbrev pub three_planes : List (List ℕ) → ThreePlanes
three_planes planes = record { first = slice_plane_at planes 0; second = slice_plane_at planes 1; third = slice_plane_at planes 2 }

-- The samples of a place are coded of a colour, and alpha has the picture's bits. Where there is no alpha, its samples count as 0.
pub record HasColor (r : RecordingValue) (coded : List (List ℕ)) (s : ℕ) : Type 0 where
  pub color : IsColor (color_coding r) (colors_of (color_coding r) (coded_at (three_planes coded) s))
  pub alpha : slice_index (slice_plane_at coded 3) s < 2 ^ r.depth

abbrev pub HaveColors : RecordingValue → List (List ℕ) → Type 0
HaveColors r coded = (s : ℕ) → s < length (slice_plane_at coded 0) → HasColor r coded s

-- Three planes are coded of the picture's, and alpha is itself.
pub record AreRgbPlanes (r : RecordingValue) (coded planes : List (List ℕ)) : Type 0 where
  pub count : length planes ≡ length coded
  pub colors : AreColorsOf (color_coding r) (three_planes coded) (three_planes planes)
  pub alpha : slice_plane_at planes 3 ≡ slice_plane_at coded 3
  pub alpha_fits : (s : ℕ) → slice_index (slice_plane_at coded 3) s < 2 ^ r.depth

abbrev pub ArePicturePlanes : RecordingValue → List (List ℕ) → List (List ℕ) → Type 0
ArePicturePlanes r coded planes = MatchBool r.is_rgb (AreRgbPlanes r coded planes) (planes ≡ coded)

-- ---- samples of no picture

-- The plane is the first, of G, B, R and alpha, whose sample of a place is no number of the picture's bits.
abbrev pub IsFirstPlane : RecordingValue → List (List ℕ) → ℕ → ℕ → Type 0
IsFirstPlane r coded s plane =
    IsFirstOutside (color_coding r) (colors_of (color_coding r) (coded_at (three_planes coded) s)) plane
    ⊎ ((plane ≡ 3) × IsColor (color_coding r) (colors_of (color_coding r) (coded_at (three_planes coded) s)) × (2 ^ r.depth ≤ slice_index (slice_plane_at coded 3) s))

-- The place is the first, in scan order, with such a sample.
pub record IsFirstSample (r : RecordingValue) (coded : List (List ℕ)) (s plane : ℕ) : Type 0 where
  pub inside : s < length (slice_plane_at coded 0)
  pub before : (k : ℕ) → k < s → HasColor r coded k
  pub outside : IsFirstPlane r coded s plane
