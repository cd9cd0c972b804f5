use Rattle.ffv1_hold.proofs.Common.{◌++◌, sym, ap, ◌∙◌, subst, append_assoc, err_from_is_err_and, StopsWriting, Writes-trans, StopsWriting-after, StopsWriting-of, digests_union}
use Rattle.ffv1_hold.proofs.DigestTexts.{whole}
use Rattle.ffv1_hold.proofs.union.write_union.Goals as goal

pub returns-in_err-write_field : goal.returns-in_err-write_field
returns-in_err-write_field g c =
    let p = err_from_is_err_and c.from_residual.result c.from_residual.ensures.1 in
    let w = c.loop-digest.invariant.written in
    let rest = whole (digests_union c.in-Some.left_after.now c.in-Some.right_after.now) in
    let split = w.2 ∙ ap (λ ds. w.0 ++ whole ds) c.in-Some.ensures.some in
    rw p.1 (subst (StopsWriting _ _) (sym split)
    (StopsWriting-after _ _ _ w.0 (c.in-Some.digest.now ++ rest) w.1 (StopsWriting-of _ _ c.in-Some.digest.now rest c.in_err-write_field.ensures)))

pub loop-digest-preserved : goal.loop-digest-preserved
loop-digest-preserved g c =
    let w = c.loop-digest.invariant.written in
    let d = c.in-Some.digest.now in
    let rest = whole (digests_union c.in-Some.left_after.now c.in-Some.right_after.now) in
    record {
      written = (
        w.0 ++ d,
        Writes-trans _ _ _ _ _ w.1 c.in_ok-write_field.ensures,
        w.2 ∙ ap (λ ds. w.0 ++ whole ds) c.in-Some.ensures.some ∙ sym (append_assoc w.0 d rest),
      );
      left = c.in-Some.ensures.left_after;
      right = c.in-Some.ensures.right_after;
    }
