use Rattle.ffv1_plane.proofs.FirstRange.{rows_before_are_coded, first_rows_are_coded}
use Rattle.ffv1_plane.proofs.first_rows.first_rows_of_range.Goals as goal

pub returns-clause-before : goal.returns-clause-before
returns-clause-before c = rows_before_are_coded

pub returns-clause-first : goal.returns-clause-first
returns-clause-first c = first_rows_are_coded
