use Rattle.std.proofs.Common.{◌∙◌, ap, arith, w64, ◌≡◌, ◌^◌, pos, ◌+ℤ◌, ◌-ℤ◌}
use mir.Val.{SFits}
use Rattle.std.specs.Int.{int_div_euclid}
use Rattle.std.proofs.lemmas.Int.{ints, to_z-of_z}
use Rattle.ffv1_colors.proofs.Back.{planes_are}
use Rattle.ffv1_colors.proofs.coding.ColorCoding.planes.Goals as goal

pub returns : goal.returns
returns c =
    let from : SFits w64 c.from.result = omega (arith, ints) in
    let blue : SFits w64 c.lowered-blue.result = omega (arith, ints, c.lowered-blue.ensures) in
    let red : SFits w64 c.lowered-red.result = omega (arith, ints, c.lowered-red.ensures) in
    let both : SFits w64 (c.lowered-blue.result +ℤ c.lowered-red.result) = omega (arith, ints, c.lowered-blue.ensures, c.lowered-red.ensures) in
    let part : SFits w64 c.quarter.result = omega (arith, ints, c.quarter.ensures) in
    let green : SFits w64 (c.from.result -ℤ c.quarter.result) = omega (arith, ints, c.quarter.ensures) in
    let blue_sum : SFits w64 (c.lowered-blue.result +ℤ (c.from.result -ℤ c.quarter.result)) = omega (arith, ints, c.quarter.ensures, c.lowered-blue.ensures) in
    let red_sum : SFits w64 (c.lowered-red.result +ℤ (c.from.result -ℤ c.quarter.result)) = omega (arith, ints, c.quarter.ensures, c.lowered-red.ensures) in
    let part_is : c.quarter.result ≡ int_div_euclid (c.lowered-blue.result +ℤ c.lowered-red.result) (pos 4) =
    c.quarter.ensures.value
    ∙ rw (to_z-of_z w64 c.lowered-blue.result blue, to_z-of_z w64 c.lowered-red.result red, to_z-of_z w64 (c.lowered-blue.result +ℤ c.lowered-red.result) both) in
    c.placed.ensures
    ∙ rw (
      to_z-of_z w64 c.from.result from,
      to_z-of_z w64 c.quarter.result part,
      to_z-of_z w64 c.lowered-blue.result blue,
      to_z-of_z w64 c.lowered-red.result red,
      to_z-of_z w64 (c.from.result -ℤ c.quarter.result) green,
      to_z-of_z w64 (c.lowered-blue.result +ℤ (c.from.result -ℤ c.quarter.result)) blue_sum,
      to_z-of_z w64 (c.lowered-red.result +ℤ (c.from.result -ℤ c.quarter.result)) red_sum,
    )
    (planes_are c.args.self.now c.self.inside.offset c.args.coded.now.luma c.args.coded.now.blue_difference c.args.coded.now.red_difference
    c.from.result c.lowered-blue.result c.lowered-red.result c.quarter.result
    (c.self.invariant.is ∙ ap (λ x. 2 ^ x.depth) c.self.view_is) c.from.ensures c.lowered-blue.ensures.value c.lowered-red.ensures.value part_is)
