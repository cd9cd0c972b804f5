use Rattle.ffv1_hold.proofs.Common.{inl, [], arith, err_from_is_err_and}
use Rattle.ffv1_hold.proofs.TextReads.{TakesText-nil, memory_stops}
use Rattle.ffv1_hold.proofs.blocks.read_block.Goals as goal

pub returns-in_err-resize-clause-read : goal.returns-in_err-resize-clause-read
returns-in_err-resize-clause-read g c =
    let p = err_from_is_err_and c.from_residual.result c.from_residual.ensures.1 in
    rw (p.1, p.2) (memory_stops _ _ _ _ _ _ _ [] (TakesText-nil _ _ c.requires.place) (inl (omega arith)))
