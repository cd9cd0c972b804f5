use Rattle.std.proofs.Common.{◌++◌, ◌∷◌, ℕ, List, [], map, get_or, ap, ◌∙◌, arith}
use Rattle.std.specs.Prelude.{slice_range}
use Rattle.std.proofs.lemmas.List.{map-append}
use Rattle.ffv1_weave.proofs.References.{nowhere}
use Rattle.ffv1_splice.proofs.Versions.{next_version}
use Rattle.ffv1_mend.proofs.parts.versions_at.Goals as goal

pub loop-version-preserved : goal.loop-version-preserved
loop-version-preserved c =
    let new : List ℕ = slice_range (get_or c.args.versions.now c.loop-version.version-index nowhere).now c.args.part.start c.args.part.end in
    ap (map (λ frame. frame.now)) c.in_ok-push.ensures.items ∙ map-append (λ frame. frame.now) c.loop-version.frames.items _
    ∙ ap (λ z. z ++ new ∷ []) c.loop-version.invariant
    ∙ next_version c.args.versions.now c.args.part.start c.args.part.end c.loop-version.version-index nowhere (omega arith)
