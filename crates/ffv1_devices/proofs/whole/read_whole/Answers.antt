use Rattle.std.proofs.Common.{◌≡◌, ◌+◌, ◌++◌, length, take, arith, sym, subst, ap, ◌∙◌, length-append, vec_len}
use Rattle.std.proofs.lemmas.List.{length-take, take-append-le}
use Rattle.std.proofs.lemmas.Result.{err_from_is_err_and}
use Rattle.ffv1_devices.specs.Logs.{Reads}
use Rattle.ffv1_devices.proofs.Steps.{Reads-nil, Reads-trans, Reads-then_none, BreaksOff-then_none}
use Rattle.ffv1_devices.proofs.whole.read_whole.Goals as goal

pub loop-bytes-init : goal.loop-bytes-init
loop-bytes-init g c = record {
  few = omega (arith, c.new-bytes.ensures.len);
  kept = subst (Reads _ _) (sym c.new-bytes.ensures.items) (Reads-nil _);
}

pub returns-in_err-count : goal.returns-in_err-count
returns-in_err-count g c =
    let p = err_from_is_err_and c.from_residual.result c.from_residual.ensures.1 in
    let inv = c.loop-bytes.invariant in
    rw (p.1, p.2) (c.loop-bytes.bytes.items, BreaksOff-then_none _ _ _ _ inv.kept c.in_err-count.ensures.read, omega (arith, inv.few))

pub returns-then-count-eq0 : goal.returns-then-count-eq0
returns-then-count-eq0 g c =
    let inv = c.loop-bytes.invariant in
    let some = c.in_ok-count.ensures.read in
    let zero = c.if-count-eq0.true in (
      Reads-then_none _ _ _ _ _ inv.kept some.0 (ap (λ n. take n c.read_some.new.buf) zero),
      some.1 zero (omega (arith, length-take (c.min-room.result + 1) c.loop-bytes.buf)),
      omega (arith, inv.few),
    )

-- What was kept, and as many bytes after it as there was room for.
pub returns-then-count-left : goal.returns-then-count-left
returns-then-count-left g c =
    let inv = c.loop-bytes.invariant in
    let e = c.in_ok-count.ensures in
    let kept = c.loop-bytes.bytes.items in
    let block = take c.in_ok-count.count c.read_some.new.buf in (
      kept ++ block,
      Reads-trans _ _ _ _ _ inv.kept e.read.0,
      omega (arith, length-append kept block, length-take (c.min-room.result + 1) c.loop-bytes.buf, e.bound),
    )

pub returns-in_err-extend_from_slice : goal.returns-in_err-extend_from_slice
returns-in_err-extend_from_slice g c =
    let p = err_from_is_err_and c.from_residual-in_err-extend_from_slice.result c.from_residual-in_err-extend_from_slice.ensures.1 in
    let inv = c.loop-bytes.invariant in
    let e = c.in_ok-count.ensures in
    let kept = c.loop-bytes.bytes.items in
    let block = take c.in_ok-count.count c.read_some.new.buf in
    rw (p.1, p.2) (kept ++ block, Reads-trans _ _ _ _ _ inv.kept e.read.0, omega (arith, length-append kept block, e.bound))

pub loop-bytes-preserved : goal.loop-bytes-preserved
loop-bytes-preserved g c =
    let inv = c.loop-bytes.invariant in
    let e = c.in_ok-count.ensures in
    let kept = c.loop-bytes.bytes.items in
    let block = take c.in_ok-count.count c.read_some.new.buf in
    let grown : c.extend_from_slice.new.self.items ≡ kept ++ block = c.in_ok-extend_from_slice.ensures.items
    ∙ ap (λ l. kept ++ l) (take-append-le c.in_ok-count.count c.read_some.new.buf _ e.bound.0) in
    let size : vec_len c.extend_from_slice.new.self ≡ vec_len c.loop-bytes.bytes + c.in_ok-count.count =
    omega (arith, ap length grown, length-append kept block, e.bound) in
    record { few = omega (arith, size); kept = subst (Reads _ _) (sym grown) (Reads-trans _ _ _ _ _ inv.kept e.read.0) }
