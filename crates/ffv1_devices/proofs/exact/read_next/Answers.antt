use Rattle.std.proofs.Common.{◌≤◌, ◌∙◌, length, take, arith, ap, sym, subst, length-take-le}
use Rattle.std.proofs.lemmas.Result.{err_from_is_err_and}
use borrow.Rule.Slice.PartMut.{mid_len}
use Rattle.ffv1_devices.specs.Logs.{Reads}
use Rattle.ffv1_devices.proofs.Steps.{Reads-nil, Reads-trans}
use Rattle.ffv1_devices.proofs.ExactSteps.{EndsBefore-after, GrowsAsRead-stopped}
use Rattle.ffv1_devices.proofs.Filling.{take-put_back}
use Rattle.ffv1_devices.proofs.exact.read_next.Goals as goal

pub loop-filled-init : goal.loop-filled-init
loop-filled-init g c = record { within = omega arith; front = omega arith; read = Reads-nil _; least = omega arith; most = omega arith; grown = omega arith }

pub returns-in_err-end-clause-read : goal.returns-in_err-end-clause-read
returns-in_err-end-clause-read g c =
    let p = err_from_is_err_and c.from_residual.result c.from_residual.ensures.1 in
    let inv = c.loop-filled.invariant in
    rw (p.1, p.2) (_, inv.read, omega (arith, length-take-le c.loop-filled.filled c.loop-filled.room.items (omega (arith, inv.within, c.loop-filled.room.ok))))

pub returns-in_err-fill-clause-read : goal.returns-in_err-fill-clause-read
returns-in_err-fill-clause-read g c =
    let p = err_from_is_err_and c.from_residual-in_err-fill.result c.from_residual-in_err-fill.ensures.1 in
    let inv = c.loop-filled.invariant in
    let end = c.in_ok-end.ensures.end in
    let part = mid_len c.loop-filled.filled c.in_ok-end.end c.deref_mut.result.now (omega (arith, end.2, c.deref_mut.ensures.len)) in
    rw (p.1, p.2) (EndsBefore-after _ _ _ _ _ _ inv.read c.in_err-fill.ensures
    (omega (arith, end.0, end.1, part, length-take-le c.loop-filled.filled c.loop-filled.room.items (omega (arith, inv.within, c.loop-filled.room.ok)))))

pub returns-in_err-fill-clause-grown : goal.returns-in_err-fill-clause-grown
returns-in_err-fill-clause-grown g c =
    let inv = c.loop-filled.invariant in
    let front = length-take-le c.loop-filled.filled c.loop-filled.room.items (omega (arith, inv.within, c.loop-filled.room.ok)) in
    GrowsAsRead-stopped _ _ _ _ _ _ _ inv.read c.in_err-fill.ensures (omega (arith, inv.grown, c.in_ok-end.ensures.grown, front))

pub loop-filled-preserved : goal.loop-filled-preserved
loop-filled-preserved g c =
    let inv = c.loop-filled.invariant in
    let end = c.in_ok-end.ensures.end in
    let all = c.deref_mut.result.now in
    let within : c.in_ok-end.end ≤ length all = omega (arith, end.2, c.deref_mut.ensures.len) in
    let full = c.fill.auto.buf ∙ mid_len c.loop-filled.filled c.in_ok-end.end all within in
    let front = ap (take c.loop-filled.filled) c.deref_mut.ensures.value ∙ c.in_ok-end.ensures.same in
    let grown = take-put_back c.loop-filled.filled c.in_ok-end.end c.next_room.new.room.len all c.fill.new.buf c.next_room.new.room.items
    (omega (arith, end.0)) within full (sym c.deref_mut.ensures.len) in
    record {
      within = end.2;
      front = end.1;
      read = subst (Reads _ _) (sym grown) (Reads-trans _ _ _ _ _ (subst (Reads _ _) (sym front) inv.read) c.in_ok-fill.ensures);
      least = omega (arith, inv.least, c.in_ok-end.ensures.least);
      most = omega (arith, inv.most, c.in_ok-end.ensures.most);
      grown = omega (arith, inv.grown, c.in_ok-end.ensures.grown, end.0);
    }
