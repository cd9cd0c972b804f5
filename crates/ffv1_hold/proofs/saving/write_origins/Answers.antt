use Rattle.ffv1_hold.proofs.Common.{subst, ap, ◌∙◌, err_from_is_err_and, StopsWriting, WritesAll, StopsWriting-of, WritesAll-after, be4, digests_union}
use Rattle.ffv1_hold.proofs.WrittenParts.{be4_spelled, origins_spelled}
use Rattle.ffv1_hold.proofs.saving.write_origins.Goals as goal

pub returns-in_err-write_field : goal.returns-in_err-write_field
returns-in_err-write_field g c =
    let p = err_from_is_err_and c.from_residual.result c.from_residual.ensures.1 in
    let spelled = origins_spelled (digests_union c.args.digests.now c.args.others.now) c.to_be_bytes.result
    (c.to_be_bytes.ensures ∙ be4_spelled _ ∙ ap be4 c.union_count-count.ensures) in
    rw p.1 (subst (StopsWriting _ _) spelled (StopsWriting-of _ _ _ _ c.in_err-write_field.ensures))

pub returns : goal.returns
returns g c =
    let spelled = origins_spelled (digests_union c.args.digests.now c.args.others.now) c.to_be_bytes.result
    (c.to_be_bytes.ensures ∙ be4_spelled _ ∙ ap be4 c.union_count-count.ensures) in
    subst (WritesAll c.write_union.result _ _) spelled (WritesAll-after c.write_union.result _ _ _ _ _ c.in_ok-write_field.ensures c.write_union.ensures)
