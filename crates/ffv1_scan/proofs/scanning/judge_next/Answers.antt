use Rattle.std.proofs.Common.{List, ℕ, take, arith, subst}
use Rattle.std.proofs.lemmas.Result.{err_from_is_err_and}
use Rattle.std.proofs.lemmas.List.{length-take-le}
use Rattle.ffv1_devices.proofs.Steps.{Reads-trans}
use Rattle.ffv1_devices.proofs.ExactSteps.{EndsBefore-more}
use Rattle.ffv1_scan.specs.Verdicts.{IsVerdictOf}
use Rattle.ffv1_scan.proofs.ScanSteps.{next_stops}
use Rattle.ffv1_scan.proofs.scanning.judge_next.Goals as goal

pub returns-in_err-pass_over : goal.returns-in_err-pass_over
returns-in_err-pass_over g c =
    let p = err_from_is_err_and c.from_residual.result c.from_residual.ensures.1 in
    rw (p.1, p.2) (record { room = tt; judged = EndsBefore-more _ _ _ _ c.in_err-pass_over.ensures (omega arith) })

pub returns-in_err-read_next : goal.returns-in_err-read_next
returns-in_err-read_next g c =
    let p = err_from_is_err_and c.from_residual-in_err-read_next.result c.from_residual-in_err-read_next.ensures.1 in
    let passed = c.in_ok-pass_over.ensures in
    rw (p.1, p.2) (record {
      room = tt;
      judged = next_stops _ _ _ _ _ passed.0 c.read_next.new.room.items c.in_err-read_next.field-0.0 passed.1 passed.2 c.in_err-read_next.ensures.read;
    })

pub returns : goal.returns
returns g c =
    let passed = c.in_ok-pass_over.ensures in
    let next = c.in_ok-read_next.ensures in
    let size = c.args.range.now.size in
    record {
      room = omega (arith, next.least, c.requires.room, c.deref_mut.ensures.len);
      judged = (
        passed.0,
        take size c.read_next.new.room.items,
        Reads-trans _ _ _ _ _ passed.1 next.read.0,
        passed.2,
        length-take-le size c.read_next.new.room.items next.read.1,
        subst (λ (bytes : List ℕ). IsVerdictOf (take size bytes) c.judge.result) c.deref.ensures.value c.judge.ensures,
      );
    }
