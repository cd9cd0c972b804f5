-- How far planes are coloured.
use Rattle.std.specs.Prelude.{◌≡◌, ℕ, ◌<◌, length}
use Rattle.ffv1_colors.specs.Colors.{CodingValue, coded_of, IsColor}
use Rattle.ffv1_colors.specs.Planes.{ThreePlanes, coded_at}

-- the first places have the colours of which their samples are coded
pub record AreColorsTo (c : CodingValue) (coded planes : ThreePlanes) (count : ℕ) : Type 0 where
  pub first_long : length planes.first ≡ count
  pub second_long : length planes.second ≡ count
  pub third_long : length planes.third ≡ count
  pub coded_so : (s : ℕ) → s < count → coded_of c (coded_at planes s) ≡ coded_at coded s
  pub colors : (s : ℕ) → s < count → IsColor c (coded_at planes s)
