use Rattle.ebml.proofs.Heads.{heads_are_local}
use Rattle.ebml.proofs.laws.heads_are_local.Goals as goal

pub returns : goal.returns
returns c = heads_are_local
