-- The values of private types.
use Rattle.ffv1_colors.specs.Colors.{Samples}
use Rattle.ffv1_colors.specs.declared.coding.Planes.{Planes}

abbrev pub plane_samples : Planes → Samples
plane_samples x = record { first = x.first; second = x.second; third = x.third }
