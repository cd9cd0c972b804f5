use Rattle.std.proofs.Common.{subst, sym}
use Rattle.ffv1_slice.specs.Members.{HasSameMembers}
use Rattle.ffv1_weave.specs.References.{values_of}
use Rattle.ffv1_mend.specs.Improved.{IsPartMend, part_value}
use Rattle.ffv1_mend.specs.declared.part.Sort.TheVariants.{Flac}
use Rattle.ffv1_mend.proofs.SameMembers.{part_lent}
use Rattle.ffv1_mend.proofs.parts.mended_frame.Goals as goal

pub returns-in_ok-distinct-in-Flac : goal.returns-in_ok-distinct-in-Flac
returns-in_ok-distinct-in-Flac c =
    let same : HasSameMembers (values_of c.args.versions.now) (values_of c.as_slice.result.now) =
    subst (λ z. HasSameMembers (values_of c.args.versions.now) (values_of z)) (sym c.as_slice.ensures.value) c.in_ok-distinct-in-Flac.ensures.same in
    subst (λ sort. IsPartMend sort (values_of c.args.versions.now) (part_value c.judged.result)) (sym c.in-Flac.is)
    (part_lent c.args.versions.now c.as_slice.result.now same Flac (part_value c.judged.result) c.judged.ensures)
