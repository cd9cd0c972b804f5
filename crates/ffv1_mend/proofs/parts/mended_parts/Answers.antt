use Rattle.std.proofs.Common.{map, take, sym, subst, ap, ◌∙◌, ◌+◌}
use Rattle.std.specs.List.{AllZip}
use Rattle.std.proofs.lemmas.List.{map_push}
use Rattle.ffv1_weave.specs.References.{values_of}
use Rattle.ffv1_splice.specs.Standings.{versions_at}
use Rattle.ffv1_mend.specs.Improved.{PartValue, IsPartMend, part_value}
use Rattle.ffv1_mend.specs.declared.part.Part.{Part}
use Rattle.ffv1_mend.proofs.PartSteps.{zip_more}
use Rattle.ffv1_mend.proofs.parts.mended_parts.Goals as goal

pub loop-part-preserved : goal.loop-part-preserved
loop-part-preserved c =
    let are : Part → PartValue → Type 0 = λ part mend. IsPartMend part.sort (versions_at (values_of c.args.versions.now) part.start part.end) mend in
    subst (AllZip are (take (c.loop-part.part-index + 1) c.args.parts.now))
    (sym (ap (map part_value) c.in_ok-push.ensures.items ∙ map_push part_value c.loop-part.mends.items c.in_ok-mended_part.field-0))
    (zip_more are c.args.parts.now (map part_value c.loop-part.mends.items) c.loop-part.part-index _ (part_value c.in_ok-mended_part.field-0)
    c.loop-part-test.true c.loop-part.invariant c.in_ok-mended_part.ensures)
