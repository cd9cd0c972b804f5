use Rattle.std.proofs.Common.{subst, sym}
use Rattle.std.proofs.lemmas.Result.{IfOk-weaker}
use Rattle.ffv1_slice.specs.Members.{HasSameMembers}
use Rattle.ffv1_splice.specs.Splice.{IsSpliceOf}
use Rattle.ffv1_weave.specs.References.{values_of}
use Rattle.ffv1_mend.proofs.SameMembers.{some_lent, splice_lent, kept_ok}
use Rattle.ffv1_mend.proofs.parts.splice_distinct.Goals as goal

pub splice-requires : goal.splice-requires
splice-requires c =
    let same : HasSameMembers (values_of c.args.versions.now) (values_of c.as_slice.result.now) =
    subst (λ z. HasSameMembers (values_of c.args.versions.now) (values_of z)) (sym c.as_slice.ensures.value) c.in_ok-distinct.ensures.same in
    some_lent c.args.versions.now c.as_slice.result.now same c.requires

pub returns : goal.returns
returns c =
    let same : HasSameMembers (values_of c.args.versions.now) (values_of c.as_slice.result.now) =
    subst (λ z. HasSameMembers (values_of c.args.versions.now) (values_of z)) (sym c.as_slice.ensures.value) c.in_ok-distinct.ensures.same in
    kept_ok c.splice.result c.map_err.result (IsSpliceOf (values_of c.args.versions.now)) _ c.map_err.ensures.cases
    (IfOk-weaker c.splice.result (IsSpliceOf (values_of c.as_slice.result.now)) (IsSpliceOf (values_of c.args.versions.now))
    (splice_lent c.args.versions.now c.as_slice.result.now same) c.splice.ensures.ok)
