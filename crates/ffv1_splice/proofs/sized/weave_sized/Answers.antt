use Rattle.ffv1_splice.proofs.Common.{◌≡◌, ◌-◌, ◌≤◌, ℕ, List, map, length, ap, subst, ◌∙◌, IfOk-weaker, IsWeaveOf, weave_tally, Slice, values_of, each_value, versions_at, sized}
use Rattle.ffv1_splice.proofs.Versions.{one_length}
use Rattle.ffv1_splice.proofs.FirstSlices.{sized_length}
use Rattle.ffv1_splice.proofs.sized.weave_sized.Goals as goal

pub weave-requires-clause-lengths : goal.weave-requires-clause-lengths
weave-requires-clause-lengths c =
    let copies : List (List ℕ) = values_of c.args.copies.now in
    one_length (map sized (versions_at copies c.args.start c.args.end)) (c.args.end - c.args.start)
    (sized_length copies c.args.end (each_value c.args.copies.now (λ copy. c.args.end ≤ length copy) c.requires.within) c.args.start c.requires.footer)
    c.as_slice-2.result.now
    (ap values_of c.as_slice-2.ensures.value ∙ c.in_ok-lent.ensures ∙ ap (map (λ version. version.items)) c.as_slice.ensures.value ∙ c.in_ok-versions.ensures)

pub returns : goal.returns
returns c =
    let is : values_of c.as_slice-2.result.now ≡ map sized (versions_at (values_of c.args.copies.now) c.args.start c.args.end) =
    ap values_of c.as_slice-2.ensures.value ∙ c.in_ok-lent.ensures ∙ ap (map (λ version. version.items)) c.as_slice.ensures.value ∙ c.in_ok-versions.ensures in
    IfOk-weaker c.weave.result (λ outcome. IsWeaveOf Slice (values_of c.as_slice-2.result.now) (weave_tally outcome))
    (λ outcome. IsWeaveOf Slice (map sized (versions_at (values_of c.args.copies.now) c.args.start c.args.end)) (weave_tally outcome))
    (λ outcome h. subst (λ vs. IsWeaveOf Slice vs (weave_tally outcome)) is h) c.weave.ensures
