use Rattle.std.proofs.lemmas.Bool.Decides.{Decides-eqb}
use Rattle.std.proofs.lemmas.Slice.Eq.{slice_eq-Decides}
use Rattle.ffv1_vectors.proofs.frame.same_samples.Goals as goal

pub returns : goal.returns
returns c = λ same. (slice_eq-Decides Decides-eqb _ _ _ c.eq.ensures).0 same
