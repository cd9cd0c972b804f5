use Rattle.std.proofs.Common.{arith, ap, ◌∙◌, pos, w32, SFits}
use Rattle.std.specs.Int.{int_div_euclid}
use Rattle.std.proofs.lemmas.Int.{ints, to_z-of_z}
use Rattle.ffv1_rice.proofs.Sums.{int_div_euclid-two}
use Rattle.ffv1_rice.proofs.state.halved.Goals as goal

pub div_euclid-requires-clause-no_overflow : goal.div_euclid-requires-clause-no_overflow
div_euclid-requires-clause-no_overflow c = λ two _. absurd (omega (arith, two))

pub returns : goal.returns
returns c =
    let f : SFits w32 c.div_euclid.result = omega (arith, ints) in
    to_z-of_z w32 c.div_euclid.result f ∙ c.div_euclid.ensures
    ∙ ap (λ z. int_div_euclid z (pos 2)) (to_z-of_z w32 c.args.drift c.ranges.drift) ∙ int_div_euclid-two c.args.drift
