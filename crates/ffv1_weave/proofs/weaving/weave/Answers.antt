use Rattle.ffv1_weave.proofs.Common.{common_steps, ℕ, List, arith, IfOk-weaker, values_of}
use Rattle.ffv1_weave.proofs.Distinct.{lent_same}
use Rattle.ffv1_weave.proofs.WeaveLaws.{weave_as}
use Rattle.ffv1_weave.proofs.weaving.weave.Goals as goal

pub returns : goal.returns
returns c =
    let versions : List (List ℕ) = values_of c.args.versions.now in
    let lent : List (List ℕ) = values_of c.as_slice.result.now in
    let same = lent_same _ _ _ c.as_slice.ensures.value c.in_ok-distinct.ensures.same in
    grind (arith, common_steps, IfOk-weaker, weave_as)
