use Rattle.ffv1_weave.proofs.Common.{subst, IsWeaveOf, values_of}
use Rattle.ffv1_weave.proofs.WeaveSteps.{have_parts, weave_found, found_woven}
use Rattle.ffv1_weave.proofs.weaving.weave_distinct.Goals as goal

pub returns-in-One : goal.returns-in-One
returns-in-One c =
    let have = have_parts c.args.versions.now c.in_ok-tried.field-0 c.in-Some.tried c.in-Some.is c.in_ok-tried.ensures c.requires.some c.requires.lengths in
    subst (λ what. IsWeaveOf c.args.check (values_of c.args.versions.now) (weave_found what c.in-Some.tried.count)) c.in-One.is
    (found_woven c.args.check have c.in_ok-bytes.field-0 c.in_ok-bytes.ensures)

pub returns-in-Several : goal.returns-in-Several
returns-in-Several c =
    let have = have_parts c.args.versions.now c.in_ok-tried.field-0 c.in-Some.tried c.in-Some.is c.in_ok-tried.ensures c.requires.some c.requires.lengths in
    subst (λ what. IsWeaveOf c.args.check (values_of c.args.versions.now) (weave_found what c.in-Some.tried.count)) c.in-Several.is
    (found_woven c.args.check have c.in_ok-bytes.field-0 c.in_ok-bytes.ensures)

pub returns : goal.returns
returns c =
    let have = have_parts c.args.versions.now c.in_ok-tried.field-0 c.in-Some.tried c.in-Some.is c.in_ok-tried.ensures c.requires.some c.requires.lengths in
    subst (λ what. IsWeaveOf c.args.check (values_of c.args.versions.now) (weave_found what c.in-Some.tried.count)) c.in-Nothing.is
    (found_woven c.args.check have c.in_ok-bytes.field-0 c.in_ok-bytes.ensures)
