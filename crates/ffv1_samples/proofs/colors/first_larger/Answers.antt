use Rattle.std.proofs.Common.{arith, ⊎_elim, length}
use Rattle.std.proofs.lemmas.Bool.{cases_lt}
use Rattle.std.proofs.lemmas.List.{get_or_past}
use Rattle.std.proofs.lemmas.Nat.{pow_pos}
use Rattle.ffv1_samples.proofs.colors.first_larger.Goals as goal

pub returns-clause-none : goal.returns-clause-none
returns-clause-none c = λ s.
    let p = pow_pos c.args.depth in
    ⊎_elim (λ less. c.loop-place.invariant s (omega (arith, less, c.loop-place-test.false, c.loop-place.auto.place-end)))
    (λ past. omega (arith, get_or_past c.args.samples.now s 0 past, p)) (cases_lt s (length c.args.samples.now))
