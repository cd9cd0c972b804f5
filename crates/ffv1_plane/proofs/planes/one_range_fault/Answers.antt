use Rattle.ffv1_plane.proofs.OneRange.{stuck_range_codes_nothing, stuck_range_is_one}
use Rattle.ffv1_plane.proofs.planes.one_range_fault.Goals as goal

pub returns-clause-nothing : goal.returns-clause-nothing
returns-clause-nothing c = stuck_range_codes_nothing

pub returns-clause-one : goal.returns-clause-one
returns-clause-one c = stuck_range_is_one
