use Rattle.ffv1_plane.proofs.OneStuck.{stuck_spells_nothing, stuck_is_one, one_result}
use Rattle.ffv1_plane.proofs.tile.one_fault.Goals as goal

pub returns-clause-nothing : goal.returns-clause-nothing
returns-clause-nothing c = stuck_spells_nothing

pub returns-clause-one : goal.returns-clause-one
returns-clause-one c = stuck_is_one

pub returns-clause-returned : goal.returns-clause-returned
returns-clause-returned c = one_result
