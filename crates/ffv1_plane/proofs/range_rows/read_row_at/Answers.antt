use Rattle.ffv1_plane.proofs.range_rows.read_row_at.Goals as goal

pub returns-in_default-clause-err : goal.returns-in_default-clause-err
returns-in_default-clause-err c = rw (c.if-is_signed.false) c.read_row-in_default.ensures.err
