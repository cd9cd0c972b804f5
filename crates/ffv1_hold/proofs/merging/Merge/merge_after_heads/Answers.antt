use Rattle.ffv1_hold.proofs.Common.{◌<◌, arith, le_refl, err_from_is_err_and}
use Rattle.ffv1_hold.proofs.JoinSteps.{AllGoOn-trans, OneStops-after, wrote, sink_stops}
use Rattle.ffv1_hold.proofs.MergeStarts.{full_stops, end_stops, union_written, union_within}
use Rattle.ffv1_hold.proofs.merging.Merge.merge_after_heads.Goals as goal

pub returns-in_err-merge_entries-clause-went : goal.returns-in_err-merge_entries-clause-went
returns-in_err-merge_entries-clause-went g c =
    let p = err_from_is_err_and c.from_residual-in_err-merge_entries.result c.from_residual-in_err-merge_entries.ensures.1 in
    rw (p.1, p.2) (OneStops-after _ _ _ _ _ _ c.in_ok-begin.ensures.went c.in_err-merge_entries.ensures.went)

pub returns-then-self-eq0-clause-err : goal.returns-then-self-eq0-clause-err
returns-then-self-eq0-clause-err g c s is o =
    let at = c.in_ok-begin.ensures.ok s is o in
    full_stops s _ _ _ _ (c.in_ok-merge_entries.ensures.ok s o.left_same o.right_same at.0 at.1) c.if-self-eq0.true

pub returns-in_err-write_field-clause-err : goal.returns-in_err-write_field-clause-err
returns-in_err-write_field-clause-err g c s is o =
    let p = err_from_is_err_and c.from_residual-in_err-write_field.result c.from_residual-in_err-write_field.ensures.1 in
    let at = c.in_ok-begin.ensures.ok s is o in
    let merged = c.in_ok-merge_entries.ensures.ok s o.left_same o.right_same at.0 at.1 in
    rw (p.1, p.2) (end_stops s _ _ _ _ merged _ (omega (arith, c.if-self-eq0.false)) c.in_err-write_field.ensures.front)

pub returns-in_err-write_field-clause-went : goal.returns-in_err-write_field-clause-went
returns-in_err-write_field-clause-went g c =
    let p = err_from_is_err_and c.from_residual-in_err-write_field.result c.from_residual-in_err-write_field.ensures.1 in
    rw (p.1, p.2) (OneStops-after _ _ _ _ _ _ (AllGoOn-trans _ _ _ _ _ _ c.in_ok-begin.ensures.went c.in_ok-merge_entries.ensures.went)
    (sink_stops _ _ _ _ _ _ c.in_err-write_field.ensures (le_refl _) (le_refl _)))

pub returns : goal.returns
returns g c =
    let begun = c.in_ok-begin.ensures in
    let merged = c.in_ok-merge_entries.ensures in
    let last = c.in_ok-write_field.ensures in
    let some : 0 < c.merge_entries.new.self.room = omega (arith, c.if-self-eq0.false) in
    record {
      ok = λ s is o.
          let at = begun.ok s is o in
          union_written s _ _ _ _ (merged.ok s o.left_same o.right_same at.0 at.1) _ some last.bytes';
      most = λ s is o.
          let at = begun.ok s is o in
          union_within s _ _ _ _ (merged.ok s o.left_same o.right_same at.0 at.1) _ some last.bytes';
      err = λ s is o. tt;
      went = AllGoOn-trans _ _ _ _ _ _ (AllGoOn-trans _ _ _ _ _ _ begun.went merged.went) (wrote _ _ _ _ _ _ last);
    }
