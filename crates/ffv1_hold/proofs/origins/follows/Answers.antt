use Rattle.ffv1_hold.proofs.Common.{ℕ, List, IsTrue, Option, sym, ◌∙◌, subst, FollowsDigest}
use Rattle.ffv1_hold.proofs.OriginReads.{last_of-get, less_index, index_less}
use Rattle.ffv1_hold.proofs.origins.follows.Goals as goal

pub returns-in-Some : goal.returns-in-Some
returns-in-Some c =
    let last = last_of-get c.args.origins.now c.in-Some.last.now c.in-Some.ensures.value in
    let digest = c.args.digest.now in (
      λ is. subst (λ (o : Option (List ℕ)). FollowsDigest o digest) (sym last)
          (sym c.cmp.ensures ∙ index_less c.cmp.result (subst IsTrue c.eq.ensures is)),
      λ follows. subst IsTrue (sym c.eq.ensures)
          (less_index c.cmp.result (c.cmp.ensures ∙ subst (λ (o : Option (List ℕ)). FollowsDigest o digest) last follows)),
    )
