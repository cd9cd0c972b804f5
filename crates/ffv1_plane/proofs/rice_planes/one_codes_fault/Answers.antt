use Rattle.ffv1_plane.proofs.OneRice.{stuck_codes_spell_nothing, stuck_codes_are_one}
use Rattle.ffv1_plane.proofs.rice_planes.one_codes_fault.Goals as goal

pub returns-clause-nothing : goal.returns-clause-nothing
returns-clause-nothing c = stuck_codes_spell_nothing

pub returns-clause-one : goal.returns-clause-one
returns-clause-one c = stuck_codes_are_one
