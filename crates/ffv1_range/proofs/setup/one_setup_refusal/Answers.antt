use Rattle.ffv1_range.proofs.Refusals.{one_setup_refusal}
use Rattle.ffv1_range.proofs.setup.one_setup_refusal.Goals as goal

pub returns : goal.returns
returns c = one_setup_refusal
