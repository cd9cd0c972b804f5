use Rattle.std.proofs.Common.{rules}
use Rattle.ffv1_rice.proofs.state.VlcState.parts.Goals as goal

pub returns-clause-drift : goal.returns-clause-drift
returns-clause-drift c = search rules
