use Rattle.ffv1_splice.proofs.Common.{◌+◌, ℕ, List, get_or, take, arith, subst, IsClaimedEnd, Tallies, claimed_tally, values_of, next_value, all_values, nowhere}
use Rattle.ffv1_splice.proofs.ClaimedEnds.{ends_joined, two_of_first}
use Rattle.ffv1_splice.proofs.crossing.claimed_ends.Goals as goal

pub returns-in-Two : goal.returns-in-Two
returns-in-Two c =
    let copies : List (List ℕ) = values_of c.args.copies.now in
    let count : ℕ = c.loop-copy.copy-index + 1 in
    let copy : List ℕ = (get_or c.args.copies.now c.loop-copy.copy-index nowhere).now in
    let before : List (List ℕ) = take c.loop-copy.copy-index copies in
    two_of_first copies count c.args.reach
    (subst (λ ends. Tallies (IsClaimedEnd (take count copies) c.args.reach) (claimed_tally ends)) c.in-Two.is
    (subst (λ z. Tallies (IsClaimedEnd z c.args.reach) (claimed_tally c.joined-ends.result))
    (next_value c.args.copies.now c.loop-copy.copy-index nowhere (omega arith))
    (ends_joined before copy c.args.reach (claimed_tally c.loop-copy.ends) (claimed_tally c.claimed_by.result) (claimed_tally c.joined-ends.result)
    c.joined-ends.ensures c.loop-copy.invariant c.claimed_by.ensures)))

pub loop-copy-preserved : goal.loop-copy-preserved
loop-copy-preserved c =
    let copies : List (List ℕ) = values_of c.args.copies.now in
    let copy : List ℕ = (get_or c.args.copies.now c.loop-copy.copy-index nowhere).now in
    let before : List (List ℕ) = take c.loop-copy.copy-index copies in
    rw (← next_value c.args.copies.now c.loop-copy.copy-index nowhere (omega arith))
    (ends_joined before copy c.args.reach (claimed_tally c.loop-copy.ends) (claimed_tally c.claimed_by.result) (claimed_tally c.joined-ends.result)
    c.joined-ends.ensures c.loop-copy.invariant c.claimed_by.ensures)

pub returns : goal.returns
returns c =
    rw (← all_values c.args.copies.now c.loop-copy.copy-index (omega arith)) c.loop-copy.invariant
