use Rattle.std.proofs.Common.{◌≡◌, ◌≤◌, ◌-◌, length, take, rules, arith, refl, sym, subst, ap, length-take-le}
use borrow.Rule.Slice.PartMut.{put_mid, take_put}
use Rattle.std.proofs.lemmas.Result.{err_from_is_err_and}
use Rattle.ffv1_devices.specs.Logs.{Reads}
use Rattle.ffv1_devices.proofs.Steps.{Reads-nil, Reads-trans, Reads-then_none, BreaksOff-then_none}
use Rattle.ffv1_devices.proofs.Filling.{take-put_mid}
use Rattle.ffv1_devices.proofs.reads.read_full.Goals as goal

pub loop-filled-init : goal.loop-filled-init
loop-filled-init g c = record { same = refl; within = omega arith; read = Reads-nil _ }

pub returns-in_err-count : goal.returns-in_err-count
returns-in_err-count g c =
    let p = err_from_is_err_and c.from_residual.result c.from_residual.ensures.1 in
    let inv = c.loop-filled.invariant in
    let size : length (put_mid c.loop-filled.filled (length c.loop-filled.buf - c.loop-filled.filled) c.loop-filled.buf c.read_some.new.buf)
    ≡ length c.loop-filled.buf = search rules in
    rw p.1 (record {
      bound = tt;
      read = (
        take c.loop-filled.filled c.loop-filled.buf,
        omega (arith, size, length-take-le c.loop-filled.filled c.loop-filled.buf inv.within),
        BreaksOff-then_none _ _ _ _ inv.read c.in_err-count.ensures.read,
      );
    })

pub loop-filled-preserved : goal.loop-filled-preserved
loop-filled-preserved g c =
    let inv = c.loop-filled.invariant in
    let some = c.in_ok-count.ensures in
    let grown = take-put_mid c.loop-filled.filled (length c.loop-filled.buf - c.loop-filled.filled) c.in_ok-count.count c.loop-filled.buf c.read_some.new.buf
    inv.within some.bound.0 in
    record {
      same = search rules;
      within = search rules;
      read = subst (Reads _ _) (sym grown) (Reads-trans _ _ _ _ _ inv.read some.read.0);
    }

pub returns-after-loop-filled : goal.returns-after-loop-filled
returns-after-loop-filled g c =
    let inv = c.loop-filled.invariant in
    record { bound = (inv.within, sym (length-take-le _ _ inv.within)); read = (inv.read, λ h. absurd (omega arith)) }

pub returns-then-count-eq0 : goal.returns-then-count-eq0
returns-then-count-eq0 g c =
    let inv = c.loop-filled.invariant in
    let some = c.in_ok-count.ensures.read in
    let none = c.if-count-eq0.true in
    let old = c.loop-filled.buf in
    let a = c.loop-filled.filled in
    let all = put_mid a (length old - a) old c.read_some.new.buf in
    let size : length all ≡ length old = search rules in
    let within : a ≤ length all = omega arith in
    record {
      bound = (within, sym (length-take-le a all within));
      read = (
        subst (Reads _ _) (sym (take_put a (length old - a) old c.read_some.new.buf inv.within))
            (Reads-then_none _ _ _ _ _ inv.read some.0 (ap (λ n. take n c.read_some.new.buf) none)),
        λ h. some.1 none (omega arith),
      );
    }
