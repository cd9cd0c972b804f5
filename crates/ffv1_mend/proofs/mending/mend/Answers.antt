use Rattle.std.proofs.Common.{length, subst, sym}
use Rattle.std.proofs.lemmas.Result.{IfOk-weaker}
use Rattle.ffv1_slice.specs.Members.{HasSameMembers}
use Rattle.ffv1_weave.specs.References.{values_of}
use Rattle.ffv1_weave.specs.declared.check.Check.TheVariants.{Record, Flac}
use Rattle.ffv1_mend.specs.Mended.{IsCheckedMend, IsElementMend, IsMendOf}
use Rattle.ffv1_mend.proofs.SameMembers.{some_lent, lengths_lent, element_lent, checked_lent}
use Rattle.ffv1_mend.proofs.mending.mend.Goals as goal

pub mend_element-requires-clause-some : goal.mend_element-requires-clause-some
mend_element-requires-clause-some c =
    let same : HasSameMembers (values_of c.args.versions.now) (values_of c.as_slice.result.now) =
    subst (λ z. HasSameMembers (values_of c.args.versions.now) (values_of z)) (sym c.as_slice.ensures.value) c.in_ok-distinct-in-Crc32.ensures.same in
    some_lent c.args.versions.now c.as_slice.result.now same c.requires.some

pub mend_element-requires-clause-lengths : goal.mend_element-requires-clause-lengths
mend_element-requires-clause-lengths c =
    let same : HasSameMembers (values_of c.args.versions.now) (values_of c.as_slice.result.now) =
    subst (λ z. HasSameMembers (values_of c.args.versions.now) (values_of z)) (sym c.as_slice.ensures.value) c.in_ok-distinct-in-Crc32.ensures.same in
    lengths_lent c.args.versions.now c.as_slice.result.now same (length c.args.from.now) c.requires.lengths

pub returns-in_ok-distinct-in-Crc32 : goal.returns-in_ok-distinct-in-Crc32
returns-in_ok-distinct-in-Crc32 c =
    let same : HasSameMembers (values_of c.args.versions.now) (values_of c.as_slice.result.now) =
    subst (λ z. HasSameMembers (values_of c.args.versions.now) (values_of z)) (sym c.as_slice.ensures.value) c.in_ok-distinct-in-Crc32.ensures.same in
    IfOk-weaker c.mend_element.result (IsElementMend (values_of c.as_slice.result.now) c.args.from.now c.args.parts.now)
    (IsMendOf c.args.kind (values_of c.args.versions.now) c.args.from.now c.args.parts.now)
    (λ mended h. subst (λ kind. IsMendOf kind (values_of c.args.versions.now) c.args.from.now c.args.parts.now mended) (sym c.in-Crc32.is)
    (element_lent c.args.versions.now c.as_slice.result.now same c.args.from.now c.args.parts.now mended h)) c.mend_element.ensures

pub mend_woven-requires-clause-some : goal.mend_woven-requires-clause-some
mend_woven-requires-clause-some c =
    let same : HasSameMembers (values_of c.args.versions.now) (values_of c.as_slice-in-Record.result.now) =
    subst (λ z. HasSameMembers (values_of c.args.versions.now) (values_of z)) (sym c.as_slice-in-Record.ensures.value) c.in_ok-distinct-in-Record.ensures.same in
    some_lent c.args.versions.now c.as_slice-in-Record.result.now same c.requires.some

pub mend_woven-requires-clause-lengths : goal.mend_woven-requires-clause-lengths
mend_woven-requires-clause-lengths c =
    let same : HasSameMembers (values_of c.args.versions.now) (values_of c.as_slice-in-Record.result.now) =
    subst (λ z. HasSameMembers (values_of c.args.versions.now) (values_of z)) (sym c.as_slice-in-Record.ensures.value) c.in_ok-distinct-in-Record.ensures.same in
    lengths_lent c.args.versions.now c.as_slice-in-Record.result.now same (length c.args.from.now) c.requires.lengths

pub returns-in_ok-distinct-in-Record : goal.returns-in_ok-distinct-in-Record
returns-in_ok-distinct-in-Record c =
    let same : HasSameMembers (values_of c.args.versions.now) (values_of c.as_slice-in-Record.result.now) =
    subst (λ z. HasSameMembers (values_of c.args.versions.now) (values_of z)) (sym c.as_slice-in-Record.ensures.value) c.in_ok-distinct-in-Record.ensures.same in
    IfOk-weaker c.mend_woven.result (IsCheckedMend Record (values_of c.as_slice-in-Record.result.now) c.args.from.now)
    (IsMendOf c.args.kind (values_of c.args.versions.now) c.args.from.now c.args.parts.now)
    (λ mended h. subst (λ kind. IsMendOf kind (values_of c.args.versions.now) c.args.from.now c.args.parts.now mended) (sym c.in-Record.is)
    (checked_lent c.args.versions.now c.as_slice-in-Record.result.now same Record c.args.from.now mended h)) c.mend_woven.ensures

pub returns-in_ok-distinct-in-Flac : goal.returns-in_ok-distinct-in-Flac
returns-in_ok-distinct-in-Flac c =
    let same : HasSameMembers (values_of c.args.versions.now) (values_of c.as_slice-in-Flac.result.now) =
    subst (λ z. HasSameMembers (values_of c.args.versions.now) (values_of z)) (sym c.as_slice-in-Flac.ensures.value) c.in_ok-distinct-in-Flac.ensures.same in
    subst (λ kind. IsMendOf kind (values_of c.args.versions.now) c.args.from.now c.args.parts.now c.mend_flac.result) (sym c.in-Flac.is)
    (checked_lent c.args.versions.now c.as_slice-in-Flac.result.now same Flac c.args.from.now c.mend_flac.result c.mend_flac.ensures)
