use Rattle.ffv1_splice.proofs.several.claimed_from.Goals as goal

pub returns-in_default-clause-claim : goal.returns-in_default-clause-claim
returns-in_default-clause-claim c = λ start cut content. absurd (c.in_default.ensures start cut content)
