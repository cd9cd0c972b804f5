-- Whole planes of RGB, and the coded planes of them (RFC 9043, section 3.7.2).
use Rattle.std.specs.Prelude.{◌≡◌, ℕ, ◌<◌, List, length, pos, slice_index}
use Rattle.ffv1_colors.specs.Colors.{CodingValue, Samples, coded_of, colors_of, IsColor, IsFirstOutside}
use Rattle.ffv1_colors.specs.declared.planes.CodedPlanes.{CodedPlanes}
use Rattle.ffv1_colors.specs.declared.planes.ColorPlanes.{ColorPlanes}
use Rattle.ffv1_colors.specs.declared.planes.ColorsFault.{ColorsFault}
use Rattle.ffv1_colors.specs.declared.planes.ColorsFault.TheVariants.{Outside, Memory}

-- Three planes, row by row: G, B and R, or the coded ones.
pub record ThreePlanes : Type 0 where
  pub first : List ℕ
  pub second : List ℕ
  pub third : List ℕ

abbrev pub coded_planes : CodedPlanes → ThreePlanes
coded_planes planes = record { first = planes.luma.now; second = planes.blue_difference.now; third = planes.red_difference.now }

abbrev pub color_planes : ColorPlanes → ThreePlanes
color_planes planes = record { first = planes.green.items; second = planes.blue.items; third = planes.red.items }

-- the three samples of a place
abbrev pub coded_at : ThreePlanes → ℕ → Samples
coded_at planes s = record {
  first = pos (slice_index planes.first s);
  second = pos (slice_index planes.second s);
  third = pos (slice_index planes.third s);
}

-- At each place the coded samples are those of a colour.
pub record AreColorsOf (c : CodingValue) (coded planes : ThreePlanes) : Type 0 where
  pub first_long : length planes.first ≡ length coded.first
  pub second_long : length planes.second ≡ length coded.first
  pub third_long : length planes.third ≡ length coded.first
  pub coded_so : (s : ℕ) → s < length coded.first → coded_of c (coded_at planes s) ≡ coded_at coded s
  pub colors : (s : ℕ) → s < length coded.first → IsColor c (coded_at planes s)

-- The place is the first whose samples are coded of no colour, and the plane the first without a sample.
pub record IsFirstOutsideAt (c : CodingValue) (coded : ThreePlanes) (place plane : ℕ) : Type 0 where
  pub inside : place < length coded.first
  pub before : (s : ℕ) → s < place → IsColor c (colors_of c (coded_at coded s))
  pub outside : IsFirstOutside c (colors_of c (coded_at coded place)) plane

abbrev pub IsColorsFaultOf : CodingValue → ThreePlanes → ColorsFault → Type 0
IsColorsFaultOf c coded (Outside place plane) = IsFirstOutsideAt c coded place plane
IsColorsFaultOf c coded Memory = Unit {0}
