use Rattle.std.proofs.lemmas.Grind.{common_steps}
use Rattle.ffv1_splice.proofs.Common.{ℕ, List, get_or, arith, slice_range, map-append, nowhere}
use Rattle.ffv1_splice.proofs.Versions.{next_version}
use Rattle.ffv1_splice.proofs.placing.versions_at.Goals as goal

pub loop-copy-preserved : goal.loop-copy-preserved
loop-copy-preserved c =
    let new : List ℕ = slice_range (get_or c.args.copies.now c.loop-copy.copy-index nowhere).now c.args.start c.args.end in
    grind (arith, common_steps, map-append, next_version, nowhere)
