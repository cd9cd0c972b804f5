use Rattle.std.proofs.Common.{◌∙◌, ap, arith, ◌≡◌, ◌^◌}
use Rattle.std.proofs.lemmas.Int.{ints}
use Rattle.ffv1_colors.specs.Colors.{coded_of, coded_of_colors}
use Rattle.ffv1_colors.proofs.Back.{coded_is}
use Rattle.ffv1_colors.proofs.coding.ColorCoding.coded.Goals as goal
use Rattle.ffv1_colors.proofs.coding.ColorCoding.coded.Goals.{After-swapped-green}

offset_is : (c : After-swapped-green) → c.self.inside.offset ≡ 2 ^ c.args.self.now.depth
offset_is c = c.self.invariant.is ∙ ap (λ x. 2 ^ x.depth) c.self.view_is

pub overflow_mul-result : goal.overflow_mul-result
overflow_mul-result c = omega (arith, ints, c.swapped-green.ensures.within, offset_is c)

pub overflow_add-result : goal.overflow_add-result
overflow_add-result c = omega (arith, ints, c.swapped-green.ensures.within, offset_is c)

pub overflow_add-result-2 : goal.overflow_add-result-2
overflow_add-result-2 c = omega (arith, ints, c.swapped-green.ensures.within, offset_is c)

pub returns-clause-value : goal.returns-clause-value
unfolding coded_of
returns-clause-value c =
    coded_is c.self.inside.depth c.self.inside.offset c.swapped-green.result.green c.swapped-green.result.blue c.swapped-green.result.red
    c.self.invariant.is (omega (arith, ints, c.swapped-green.ensures.within, offset_is c))
    ∙ rw (ap (λ x. x.depth) c.self.view_is) (ap (coded_of_colors c.args.self.now.depth) c.swapped-green.ensures.value)
