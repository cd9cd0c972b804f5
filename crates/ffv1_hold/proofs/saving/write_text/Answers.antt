use Rattle.ffv1_hold.proofs.Common.{[], ◌∷◌, subst, ap, err_from_is_err_and, Writes, StopsWriting, Writes-trans, StopsWriting-after, StopsWriting-of, Second, head_text, entries_text, file_entries}
use Rattle.ffv1_hold.proofs.saving.write_text.Goals as goal

pub returns-in_err-write_head : goal.returns-in_err-write_head
returns-in_err-write_head g c =
    let p = err_from_is_err_and c.from_residual.result c.from_residual.ensures.1 in
    let head = subst (StopsWriting _ _) (ap (head_text Second) c.reel.ensures.value) c.in_err-write_head.ensures in
    rw p.1 (StopsWriting-of _ _ _ (0 ∷ []) (StopsWriting-of _ _ _ (entries_text Second (file_entries c.args.holding.now)) head))

pub returns-in_err-write_entries : goal.returns-in_err-write_entries
returns-in_err-write_entries g c =
    let p = err_from_is_err_and c.from_residual-in_err-write_entries.result c.from_residual-in_err-write_entries.ensures.1 in
    let head = subst (Writes _ _) (ap (head_text Second) c.reel.ensures.value) c.in_ok-write_head.ensures in
    rw p.1 (StopsWriting-of _ _ _ (0 ∷ []) (StopsWriting-after _ _ _ _ _ head c.in_err-write_entries.ensures))

pub returns-in_err-write_field : goal.returns-in_err-write_field
returns-in_err-write_field g c =
    let p = err_from_is_err_and c.from_residual-in_err-write_field.result c.from_residual-in_err-write_field.ensures.1 in
    let head = subst (Writes _ _) (ap (head_text Second) c.reel.ensures.value) c.in_ok-write_head.ensures in
    rw p.1 (StopsWriting-after _ _ _ _ _ (Writes-trans _ _ _ _ _ head c.in_ok-write_entries.ensures) c.in_err-write_field.ensures)
