use Rattle.std.proofs.Common.{List, ◌++◌, length, sym, ap, ◌∙◌, subst, false}
use Rattle.std.specs.List.{AllByRecursion}
use Rattle.matroska_parts.specs.declared.parts.Part.{Part}
use Rattle.matroska_parts.specs.Named.{IsBelow}
use Rattle.matroska_parts.specs.MasterParts.{IsMasterChild}
use Rattle.ffv1_check.proofs.ClusterSteps.{child_below}
use Rattle.ffv1_check.proofs.clusters.take_child.Goals as goal

pub take_parts-requires : goal.take_parts-requires
take_parts-requires c =
    let stands = c.requires.stands in
    let adds = c.in_ok-push_child.ensures in
    let same = c.as_slice-parts.ensures.value ∙ adds.1 ∙ ap (λ (l : List Part). l ++ adds.0) c.new-parts.ensures.items in (
      length c.args.tracks.now.tracks,
      stands.0,
      stands.1,
      subst (AllByRecursion (IsBelow (length c.args.tracks.now.tracks))) (sym same) (child_below c.args.tracks.now.tracks false c.args.place c.args.bytes.now adds.0 adds.2),
    )

pub returns : goal.returns
returns c =
    let adds = c.in_ok-push_child.ensures in
    let same = c.as_slice-parts.ensures.value ∙ adds.1 ∙ ap (λ (l : List Part). l ++ adds.0) c.new-parts.ensures.items in (
      c.as_slice-parts.result.now,
      subst (IsMasterChild c.args.tracks.now.tracks false c.args.place c.args.bytes.now) (sym same) adds.2,
      λ before stands. c.in_ok-take_parts.ensures (length c.args.tracks.now.tracks) before stands,
      c.in_ok-take.ensures.blocks,
      c.in_ok-take.ensures.checked,
    )
