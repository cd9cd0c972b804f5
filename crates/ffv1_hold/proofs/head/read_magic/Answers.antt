use Rattle.ffv1_hold.proofs.Common.{◌<◌, length, take, arith, length-take-le, err_from_is_err_and, IsShorter, Never, IsPartOfMagic, MagicShows}
use Rattle.ffv1_hold.proofs.TextReads.{StopsAt-after}
use Rattle.ffv1_hold.proofs.Magics.{part_of_magic}
use Rattle.ffv1_hold.proofs.head.read_magic.Goals as goal

pub returns-in_err-read_field-clause-read : goal.returns-in_err-read_field-clause-read
returns-in_err-read_field-clause-read g c =
    let p = err_from_is_err_and c.from_residual.result c.from_residual.ensures.1 in
    let inv = c.loop-at.invariant in
    let q = c.args.recordings in
    let seen = take c.loop-at.at c.loop-at.magic in
    let few : length seen < 8 = omega (arith, length-take-le c.loop-at.at c.loop-at.magic (omega (arith, inv.long, c.loop-at-test.true)), c.loop-at-test.true, c.loop-at.auto.at-end) in
    rw (p.1, p.2) (StopsAt-after (IsShorter (length c.loop-at.byte)) (IsPartOfMagic q) Never Never Never (MagicShows q) _ _ _ _ _ seen inv.text _
    c.in_err-read_field.ensures.read (λ s short. part_of_magic q seen s few inv.begun (omega (arith, short, inv.room))) (λ f s h. absurd h) (λ f s h. absurd h))
