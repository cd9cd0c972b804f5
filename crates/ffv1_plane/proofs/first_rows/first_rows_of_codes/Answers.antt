use Rattle.ffv1_plane.proofs.FirstCodes.{rows_before_are_spelled, first_rows_are_spelled}
use Rattle.ffv1_plane.proofs.first_rows.first_rows_of_codes.Goals as goal

pub returns-clause-before : goal.returns-clause-before
returns-clause-before c = rows_before_are_spelled

pub returns-clause-first : goal.returns-clause-first
returns-clause-first c = first_rows_are_spelled
