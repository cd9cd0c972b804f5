use Rattle.std.proofs.Common.{◌++◌, sym, subst, replicate, length}
use Rattle.std.specs.List.{AllByRecursion}
use Rattle.std.proofs.lemmas.List.{length-replicate}
use Rattle.matroska_parts.specs.Named.{IsBelow}
use Rattle.matroska_parts.specs.Openings.{passes}
use Rattle.matroska_parts.specs.Inner.Vouched.{vouched_if}
use Rattle.ffv1_check.proofs.ClusterSteps.{end_below, cluster_ended}
use Rattle.ffv1_check.proofs.clusters.end_cluster.Goals as goal

pub take_parts-requires : goal.take_parts-requires
take_parts-requires c =
    let r = c.requires.stands in
    let n = length c.args.tracks.now.tracks in
    let zeros = replicate c.args.rest 0 in (
      n,
      r.0 ++ vouched_if (passes c.crc32_by-crc32.result) r.1,
      c.vouch_if.ensures n r.0 r.1 r.2 r.3,
      subst (AllByRecursion (IsBelow (length c.args.tracks.now.tracks))) (sym c.deref.ensures.value)
          (end_below c.args.tracks.now _ _ c.new-parts.result.items c.push_span.new.parts.items c.push_end.new.parts.items _ zeros c.new-parts.ensures.items
          (c.in_ok-push_span.ensures zeros (sym (length-replicate c.args.rest 0))) c.in_ok-push_end.ensures),
    )

pub returns : goal.returns
returns c =
    cluster_ended c.args.tracks.now c.args.place c.args.head.now c.args.children c.args.rest c.args.crc.now c.args.waiting.now c.args.reporter.now c.vouch_if.new.reporter
    c.take_parts.new.reporter c.crc32_by-crc32.result c.crc32_by-crc32.ensures c.vouch_if.ensures c.new-parts.result.items c.push_span.new.parts.items
    c.push_end.new.parts.items c.deref.result.now c.new-parts.ensures.items c.in_ok-push_span.ensures c.in_ok-push_end.ensures c.deref.ensures.value c.take_parts.result
    c.take_parts.ensures
