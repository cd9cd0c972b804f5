use Rattle.ffv1_range.proofs.Refusals.{one_scoped_refusal}
use Rattle.ffv1_range.proofs.scope_laws.one_scoped_refusal.Goals as goal

pub returns : goal.returns
returns c = one_scoped_refusal
