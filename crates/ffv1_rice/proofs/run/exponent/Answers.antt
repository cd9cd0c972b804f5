use Rattle.std.proofs.Common.{◌≡◌, ◌≤◌, arith, rules}
use Rattle.ffv1_rice.specs.Runs.{run_exponent}
use Rattle.ffv1_rice.proofs.Words.{exponent_low}
use Rattle.ffv1_rice.proofs.run.exponent.Goals as goal

pub returns-clause-low : goal.returns-clause-low
unfolding run_exponent
returns-clause-low c =
    let e : c.from.result ≡ run_exponent c.args.index = search rules in
    let h : run_exponent c.args.index ≤ 16 = exponent_low c.args.index c.requires in
    omega (arith, e, h)
