use Rattle.ffv1_hold.proofs.Common.{arith, inl, err_from_is_err_and}
use Rattle.ffv1_hold.proofs.TextReads.{broke_off}
use Rattle.ffv1_hold.proofs.fields.read_within.Goals as goal

pub returns-in_err-count : goal.returns-in_err-count
returns-in_err-count g c =
    let p = err_from_is_err_and c.from_residual.result c.from_residual.ensures.1 in
    let (seen, fewer, off) = c.in_err-count.ensures.read in
    rw (p.1, p.2) (broke_off _ _ _ _ _ _ seen off (omega (arith, fewer)) (inl (omega (arith, fewer))))
