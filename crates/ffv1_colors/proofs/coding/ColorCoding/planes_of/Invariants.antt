use Rattle.ffv1_colors.specs.Planes.{coded_planes}
use Rattle.ffv1_colors.specs.Inner.Planes.{AreColorsTo}
use Rattle.ffv1_colors.proofs.MoreColors.{planes_with}
use Rattle.ffv1_colors.proofs.coding.ColorCoding.planes_of.Given as goal

abbrev pub invariant-loop-place : goal.invariant-loop-place
invariant-loop-place l = record {
  so_far : AreColorsTo l.fn.self (coded_planes l.fn.coded) (planes_with l.green.items l.blue.items l.red.items) l.place;
}
