use Rattle.ffv1_hold.proofs.Common.{common_steps, arith, length-append, err_from_is_err_and}
use Rattle.ffv1_hold.proofs.OriginReads.{text_push, digest_refused, pushed_origins, origins_text-of}
use Rattle.ffv1_hold.proofs.origins.read_origins.Goals as goal

pub returns-in_err-read_digest-clause-read : goal.returns-in_err-read_digest-clause-read
returns-in_err-read_digest-clause-read g c =
    let p = err_from_is_err_and c.from_residual-in_err-read_digest.result c.from_residual-in_err-read_digest.ensures.1 in
    let inv = c.loop-index.invariant in
    rw (p.1, p.2) (digest_refused _ _ _ _ _ c.in_ok-count.count c.loop-index.origins.items inv.text _ inv.origins (omega arith)
    (omega (arith, inv.some, c.loop-index-test.true)) c.in_err-read_digest.ensures.err)

pub loop-index-preserved : goal.loop-index-preserved
loop-index-preserved g c =
    let inv = c.loop-index.invariant in
    let one = c.in_ok-read_digest.ensures.ok in
    grind (arith, common_steps, text_push, pushed_origins, length-append)

pub returns-clause-read : goal.returns-clause-read
returns-clause-read g c =
    let inv = c.loop-index.invariant in
    grind (arith, common_steps, origins_text-of)
