use Rattle.ffv1_samples.proofs.Refusals.{refused_has_no_picture, refused_for_one}
use Rattle.ffv1_samples.proofs.slice.one_slice_fault.Goals as goal

pub returns-clause-nothing : goal.returns-clause-nothing
returns-clause-nothing c = refused_has_no_picture

pub returns-clause-one : goal.returns-clause-one
returns-clause-one c = refused_for_one
