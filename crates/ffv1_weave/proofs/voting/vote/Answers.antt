use Rattle.ffv1_weave.proofs.Common.{ℕ, List, arith, IsVoteOf, values_of}
use Rattle.ffv1_weave.proofs.References.{length-values_of}
use Rattle.ffv1_weave.proofs.Distinct.{lent_same}
use Rattle.ffv1_weave.proofs.Returned.{returned_as}
use Rattle.ffv1_weave.proofs.VoteLaws.{vote_of_as}
use Rattle.ffv1_weave.proofs.VoteSteps.{no_vote_of_two}
use Rattle.ffv1_weave.proofs.voting.vote.Goals as goal

pub returns-then-len-lt3 : goal.returns-then-len-lt3
returns-then-len-lt3 c = λ bytes count vote.
    let distinct : List (List ℕ) = values_of c.in_ok-distinct.distinct.items in
    no_vote_of_two distinct (omega (arith, c.if-len-lt3.true, length-values_of c.in_ok-distinct.distinct.items)) bytes count
    (vote_of_as (values_of c.args.versions.now) distinct c.in_ok-distinct.ensures.same bytes count vote)

pub returns : goal.returns
returns c =
    returned_as IsVoteOf vote_of_as (values_of c.as_slice.result.now) (values_of c.args.versions.now)
    (lent_same _ _ _ c.as_slice.ensures.value c.in_ok-distinct.ensures.same) c.vote_distinct.result c.vote_distinct.ensures
