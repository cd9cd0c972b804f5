-- The code's own values as those of the definitions.
use Rattle.std.specs.Prelude.{pos}
use Rattle.ffv1_colors.specs.Colors.{Samples}
use Rattle.ffv1_colors.specs.declared.coding.Color.{Color}
use Rattle.ffv1_colors.specs.declared.coding.CodedColor.{CodedColor}

abbrev pub color_samples : Color → Samples
color_samples x = record { first = pos x.green; second = pos x.blue; third = pos x.red }

abbrev pub coded_samples : CodedColor → Samples
coded_samples x = record { first = pos x.luma; second = pos x.blue_difference; third = pos x.red_difference }
