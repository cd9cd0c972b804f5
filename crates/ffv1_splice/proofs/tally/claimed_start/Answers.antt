use Rattle.ffv1_splice.proofs.tally.claimed_start.Goals as goal

pub returns-in_default-2 : goal.returns-in_default-2
returns-in_default-2 c = λ start cut content. c.in_default.ensures.cut start cut
