use Rattle.std.proofs.Common.{ap, ◌∙◌}
use Rattle.ffv1_rice.specs.States.{with_value, counted, corrected, greatest_depth}
use Rattle.ffv1_rice.proofs.Depths.{greatest}
use Rattle.ffv1_rice.proofs.Sums.{IsDifference-of_z, to_z-of_z-difference}
use Rattle.ffv1_rice.proofs.state.VlcState.updated.Goals as goal

pub with_value-requires-clause-range : goal.with_value-requires-clause-range
with_value-requires-clause-range c = IsDifference-of_z greatest_depth c.args.value greatest c.requires

pub with_value-requires-clause-sums : goal.with_value-requires-clause-sums
with_value-requires-clause-sums c = c.self.invariant

pub counted-requires : goal.counted-requires
counted-requires c = c.with_value.ensures.range

pub corrected-requires : goal.corrected-requires
corrected-requires c = c.counted.ensures.range

pub invariant_of-result : goal.invariant_of-result
invariant_of-result c = c.corrected.ensures.range

pub returns : goal.returns
returns c =
    rw (← c.self.view_is)
    (c.corrected.ensures.value ∙ ap corrected
    (c.counted.ensures.value ∙ ap counted (c.with_value.ensures.value ∙ ap (with_value c.self.inside.sums) (to_z-of_z-difference greatest_depth c.args.value greatest c.requires))))
