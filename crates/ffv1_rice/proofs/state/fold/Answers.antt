use Rattle.std.proofs.Common.{ap, ◌∙◌}
use Rattle.std.proofs.lemmas.Int.{to_z-of_z}
use Rattle.std.proofs.Common.{w32, of_z}
use Rattle.ffv1_rice.proofs.Sums.{folded_is}
use Rattle.ffv1_rice.proofs.state.fold.Goals as goal

pub returns-clause-value : goal.returns-clause-value
returns-clause-value c =
    folded_is c.args.depth c.args.d c.half_of_depth-half.result c.cast_unsigned.result c.requires c.ranges.d c.half_of_depth-half.ensures
    (c.cast_unsigned.ensures ∙ ap (of_z w32) (to_z-of_z w32 c.args.d c.ranges.d))
