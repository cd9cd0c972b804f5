use Rattle.std.proofs.Common.{◌≡◌, map, ap, ◌∙◌, subst, sym}
use Rattle.std.proofs.lemmas.Result.{IfOk-weaker}
use Rattle.ffv1_slice.specs.Members.{HasSameMembers}
use Rattle.ffv1_weave.specs.Weave.{IsWeaveOf, weave_tally}
use Rattle.ffv1_weave.specs.declared.check.Check.TheVariants.{Element}
use Rattle.ffv1_weave.specs.References.{values_of}
use Rattle.ffv1_mend.specs.Content.{content_bytes}
use Rattle.ffv1_mend.specs.Improved.{part_value, improved}
use Rattle.ffv1_mend.proofs.WeaveSteps.{some_lent, lent_lengths, weave_lent}
use Rattle.ffv1_mend.proofs.element.weave_improved.Goals as goal

pub weave-requires-clause-some : goal.weave-requires-clause-some
weave-requires-clause-some c =
    let are : map content_bytes c.in_ok-all.all.items ≡ values_of c.as_slice-2.result.now =
    sym (ap values_of c.as_slice-2.ensures.value ∙ c.in_ok-lent.ensures ∙ ap (map content_bytes) c.as_slice.ensures.value) in
    let same = subst (HasSameMembers (improved (values_of c.args.versions.now) c.args.parts.now (map part_value c.args.mends.now))) are c.in_ok-all.ensures in
    some_lent c.args.versions.now c.as_slice-2.result.now c.args.parts.now (map part_value c.args.mends.now) same c.requires.some

pub weave-requires-clause-lengths : goal.weave-requires-clause-lengths
weave-requires-clause-lengths c =
    let are : map content_bytes c.in_ok-all.all.items ≡ values_of c.as_slice-2.result.now =
    sym (ap values_of c.as_slice-2.ensures.value ∙ c.in_ok-lent.ensures ∙ ap (map content_bytes) c.as_slice.ensures.value) in
    let same = subst (HasSameMembers (improved (values_of c.args.versions.now) c.args.parts.now (map part_value c.args.mends.now))) are c.in_ok-all.ensures in
    lent_lengths c.args.versions.now c.as_slice-2.result.now c.args.parts.now (map part_value c.args.mends.now) same c.args.size c.requires.fit c.requires.lengths

pub returns : goal.returns
returns c =
    let are : map content_bytes c.in_ok-all.all.items ≡ values_of c.as_slice-2.result.now =
    sym (ap values_of c.as_slice-2.ensures.value ∙ c.in_ok-lent.ensures ∙ ap (map content_bytes) c.as_slice.ensures.value) in
    let same = subst (HasSameMembers (improved (values_of c.args.versions.now) c.args.parts.now (map part_value c.args.mends.now))) are c.in_ok-all.ensures in
    IfOk-weaker c.weave.result (λ outcome. IsWeaveOf Element (values_of c.as_slice-2.result.now) (weave_tally outcome))
    (λ outcome. IsWeaveOf Element (improved (values_of c.args.versions.now) c.args.parts.now (map part_value c.args.mends.now)) (weave_tally outcome))
    (λ outcome h. weave_lent c.args.versions.now c.as_slice-2.result.now c.args.parts.now (map part_value c.args.mends.now) same (weave_tally outcome) h) c.weave.ensures
