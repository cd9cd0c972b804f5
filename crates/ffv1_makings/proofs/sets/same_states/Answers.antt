use Rattle.std.proofs.lemmas.Slice.Eq.{slice_eq-Decides, bytes_eq-Decides}
use Rattle.ffv1_makings.proofs.sets.same_states.Goals as goal

pub returns : goal.returns
returns c = λ h. (slice_eq-Decides bytes_eq-Decides c.args.states.now c.args.others.now c.eq.result c.eq.ensures).0 h
