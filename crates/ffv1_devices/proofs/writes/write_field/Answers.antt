use Rattle.std.proofs.Common.{◌≡◌, [], ◌++◌, arith, length, take, refl, sym, subst, ap, ◌∙◌, append-nil}
use Rattle.std.proofs.lemmas.Result.{err_from_is_err_and}
use Rattle.ffv1_devices.specs.Logs.{Writes, StopsWriting}
use Rattle.ffv1_devices.proofs.Fronts.{moves_front}
use Rattle.ffv1_devices.proofs.Kept.{none_of-length}
use Rattle.ffv1_devices.proofs.Steps.{Writes-nil, Writes-trans, StopsWriting-after, StopsWriting-of}
use Rattle.ffv1_devices.proofs.writes.write_field.Goals as goal

pub loop-rest-init : goal.loop-rest-init
loop-rest-init g c = ([], refl, Writes-nil _)

pub loop-rest-preserved : goal.loop-rest-preserved
loop-rest-preserved g c =
    let (done, split, written) = c.loop-rest.invariant in
    let rest = c.loop-rest.rest.now in
    let n = c.in_ok-count.count in
    (done ++ take n rest, moves_front _ done rest n split, Writes-trans _ _ _ _ _ written c.in_ok-count.ensures.written)

pub returns-in_err-count : goal.returns-in_err-count
returns-in_err-count g c =
    let p = err_from_is_err_and c.from_residual.result c.from_residual.ensures.1 in
    let (done, split, written) = c.loop-rest.invariant in
    let rest = c.loop-rest.rest.now in
    rw p.1 (subst (StopsWriting _ _) (sym split) (StopsWriting-after _ _ _ _ _ written (StopsWriting-of _ _ [] rest c.in_err-count.ensures.written)))

pub returns : goal.returns
returns g c =
    let (done, split, written) = c.loop-rest.invariant in
    let size : length c.loop-rest.rest.now ≡ 0 = grind arith in
    let none = none_of-length c.loop-rest.rest.now (omega (arith, size)) in
    subst (Writes _ _) (sym (split ∙ ap (λ l. done ++ l) none ∙ append-nil done)) written
