use Rattle.ffv1_weave.proofs.Common.{common_steps, ◌<◌, ℕ, List, Bor, length, get_or, arith, IfOk-weaker, HasSameMembers, AreChoices, AreDistinct, values_of}
use Rattle.ffv1_weave.proofs.References.{nowhere}
use Rattle.ffv1_weave.proofs.Distinct.{distinct_same, distinct_some, distinct_lengths}
use Rattle.ffv1_weave.proofs.parts.distinct_versions.Goals as goal

pub returns : goal.returns
returns c =
    let versions : List (Bor (List ℕ)) = c.args.versions.now in
    let some = c.requires.some in
    let lengths = c.requires.lengths in
    let of : (Is : List (Bor (List ℕ)) → Type 0)
    → ((distinct : List (Bor (List ℕ))) → AreChoices (values_of versions) 0 (length (get_or versions 0 nowhere).now) (values_of distinct) → Is distinct)
    → _ = λ Is is. IfOk-weaker c.choices_between.result
    (λ distinct. AreChoices (values_of versions) 0 (length (get_or versions 0 nowhere).now) (values_of distinct.items)) (λ distinct. Is distinct.items)
    (λ distinct choices. is distinct.items choices) c.choices_between.ensures in
    record {
      same = of (λ distinct. HasSameMembers (values_of versions) (values_of distinct)) (λ distinct. distinct_same versions distinct some lengths);
      some = of (λ distinct. 0 < length distinct) (λ distinct. distinct_some versions distinct some lengths);
      lengths = grind (arith, common_steps, distinct_lengths);
      distinct = of (λ distinct. AreDistinct (values_of distinct)) (λ distinct choices. choices.once);
    }
