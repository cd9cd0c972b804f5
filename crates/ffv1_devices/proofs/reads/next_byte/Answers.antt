use Rattle.std.proofs.Common.{◌≡◌, length, take, arith, subst, ap, ◌∙◌}
use Rattle.std.proofs.lemmas.Result.{err_from_is_err_and}
use Rattle.ffv1_devices.specs.Logs.{Reads, BreaksOff}
use Rattle.ffv1_devices.proofs.Kept.{none_of-length, take-one}
use Rattle.ffv1_devices.proofs.reads.next_byte.Goals as goal

pub returns-in_err-count : goal.returns-in_err-count
returns-in_err-count g c =
    let p = err_from_is_err_and c.from_residual.result c.from_residual.ensures.1 in
    let (seen, fewer, off) = c.in_err-count.ensures.read in
    let one : length c.read_full.new.buf ≡ 1 = c.read_full.auto.buf in
    rw p.1 (subst (BreaksOff _ _) (none_of-length seen (omega (arith, one, fewer))) off)

pub returns-then-count-eq0 : goal.returns-then-count-eq0
returns-then-count-eq0 g c =
    let full = c.in_ok-count.ensures.read in
    let zero = c.if-count-eq0.true in
    let one : length c.read_full.new.buf ≡ 1 = c.read_full.auto.buf in
    (subst (Reads _ _) (ap (λ n. take n c.read_full.new.buf) zero) full.0, full.1 (omega (arith, one, zero)))

pub returns : goal.returns
returns g c =
    let full = c.in_ok-count.ensures in
    let one : length c.read_full.new.buf ≡ 1 = c.read_full.auto.buf in
    let count : c.in_ok-count.count ≡ 1 = omega (arith, one, full.bound.0, c.if-count-eq0.false) in
    subst (Reads _ _) (ap (λ n. take n c.read_full.new.buf) count ∙ take-one c.read_full.new.buf _ one) full.read.0
