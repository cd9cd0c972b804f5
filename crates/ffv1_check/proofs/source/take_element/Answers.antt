use Rattle.std.proofs.Common.{◌++◌, List, length, sym, ap, ◌∙◌, subst}
use Rattle.std.specs.List.{AllByRecursion}
use Rattle.std.proofs.lemmas.Result.{err_from_is_err_and}
use Rattle.ebml.specs.declared.items.Kind.TheVariants as kind
use Rattle.ebml_reader.proofs.Steps.{memory_after}
use Rattle.matroska_parts.specs.declared.parts.Part.{Part}
use Rattle.matroska_parts.specs.Named.{IsBelow}
use Rattle.matroska_parts.specs.ItemParts.{AreItemPartsBy}
use Rattle.matroska_parts.proofs.BelowSteps.{item_below}
use Rattle.ffv1_check.proofs.ClusterSteps.{element_taken}
use Rattle.ffv1_check.proofs.source.take_element.Goals as goal

pub returns-then-head-eq-CLUSTER : goal.returns-then-head-eq-CLUSTER
returns-then-head-eq-CLUSTER g c = λ bytes is.
    element_taken c.args.tracks.now c.args.place c.args.head.now bytes c.take_cluster.result c.args.reporter.now c.take_cluster.new.reporter c.args.intake.now
    c.take_cluster.new.intake _ _ (c.take_cluster.ensures bytes is.0.has is.3)

pub take_parts-requires : goal.take_parts-requires
take_parts-requires g c =
    let start = c.requires.start in
    let s = c.requires.stands in
    let passed = c.in_ok-rest.ensures start.0 start.1 in
    let same = c.deref.ensures.value ∙ passed.3.1 ∙ ap (λ (l : List Part). l ++ passed.3.0) c.new-parts.ensures.items in (
      length c.args.tracks.now.tracks,
      s.0,
      s.1,
      subst (AllByRecursion (IsBelow (length c.args.tracks.now.tracks))) (sym same)
          (item_below c.args.tracks.now.tracks (kind.Element c.args.head.now) c.args.tracks.now.first c.args.place (start.0 ++ passed.0) passed.3.0 passed.3.2),
    )

pub returns-in_err-take_parts : goal.returns-in_err-take_parts
returns-in_err-take_parts g c = λ bytes is.
    let passed = c.in_ok-rest.ensures bytes is in
    let ends = passed.2 is.2.0 is.2.1 in
    let p = err_from_is_err_and c.from_residual-in_err-take_parts.result c.from_residual-in_err-take_parts.ensures.1 in
    rw (p.1, p.2) (rw c.in_err-take_parts.ensures (memory_after passed.0 c.args.intake.now c.pass_element.new.intake _ _ ends.passes))

pub returns : goal.returns
returns g c = λ bytes is.
    let passed = c.in_ok-rest.ensures bytes is in
    let same = c.deref.ensures.value ∙ passed.3.1 ∙ ap (λ (l : List Part). l ++ passed.3.0) c.new-parts.ensures.items in (
      passed.0,
      passed.1,
      passed.2,
      λ before stands. (
        c.deref.result.now,
        subst (AreItemPartsBy (kind.Element c.args.head.now) c.args.tracks.now.first c.args.tracks.now.tracks c.args.place (bytes ++ passed.0)) (sym same) passed.3.2,
        c.in_ok-take_parts.ensures (length c.args.tracks.now.tracks) before stands,
      ),
    )
