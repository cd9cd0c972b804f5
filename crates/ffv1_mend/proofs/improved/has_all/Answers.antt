use Rattle.std.proofs.Common.{rules, ◌≡◌, sym}
use Rattle.ffv1_mend.specs.Improved.{given_by, given_patches, patched}
use Rattle.ffv1_mend.proofs.PartSteps.{next_pair, pair_more, of_all}
use Rattle.ffv1_mend.proofs.improved.has_all.Goals as goal

pub has_part-requires : goal.has_part-requires
has_part-requires c =
    let next = next_pair c.args.parts.now c.args.mends.now _ c.requires c.loop-part.yielded c.into_iter-part-iterator.result c.loop-part.part-iterator
    c.next.new.self c.next.result (search rules) (search rules) c.loop-part.yielded_by
    c.in-Some.part c.in-Some.mend c.in-Some.is c.next.ensures.steps in
    next.fits

pub loop-part-preserved : goal.loop-part-preserved
loop-part-preserved c =
    pair_more c.args.parts.now c.args.mends.now _ c.requires c.loop-part.yielded c.into_iter-part-iterator.result c.loop-part.part-iterator
    c.next.new.self c.next.result (search rules) (search rules) c.loop-part.yielded_by
    given_by c.in-Some.part c.in-Some.mend c.in-Some.is c.next.ensures.steps c.args.version.now c.args.version.now c.args.version.now c.loop-part.invariant
    (sym (c.has_part.ensures c.if-not-has_part.false))

pub returns : goal.returns
returns c holds =
    sym (of_all c.args.parts.now c.args.mends.now _ c.requires c.loop-part.yielded c.into_iter-part-iterator.result c.loop-part.part-iterator
    c.next.new.self c.next.result (search rules) (search rules) c.loop-part.yielded_by
    (λ ps ms. c.args.version.now ≡ patched c.args.version.now (given_patches ps ms)) c.in-None.is c.next.ensures.steps c.loop-part.invariant)
