use Rattle.ffv1_vectors.proofs.FrameSteps.{IsMadeTo}
use Rattle.ffv1_vectors.proofs.frame.make_frame.Given as goal

-- The slices so far are made.
abbrev pub invariant-loop-tile : goal.invariant-loop-tile
invariant-loop-tile l = IsMadeTo l.setup l.spec l.tile l.payload.items
