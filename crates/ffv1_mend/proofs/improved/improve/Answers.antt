use Rattle.std.proofs.Common.{rules, ◌≡◌, sym, subst}
use Rattle.ffv1_mend.specs.Inner.Improved.{IsFitting}
use Rattle.ffv1_mend.specs.Improved.{part_value, given_by, given_patches, patched}
use Rattle.ffv1_mend.proofs.PartSteps.{next_pair, pair_more, of_all}
use Rattle.ffv1_mend.proofs.improved.improve.Goals as goal

pub improve_part-requires : goal.improve_part-requires
improve_part-requires c =
    let next = next_pair c.args.parts.now c.args.mends.now _ c.requires c.loop-part.yielded c.into_iter-part-iterator.result c.loop-part.part-iterator
    c.next.new.self c.next.result (search rules) (search rules) c.loop-part.yielded_by
    c.in-Some.part c.in-Some.mend c.in-Some.is c.next.ensures.steps in
    subst (λ n. IsFitting n c.in-Some.part.now (part_value c.in-Some.mend.now)) (sym c.loop-part.auto.version) next.fits

pub loop-part-preserved : goal.loop-part-preserved
loop-part-preserved c =
    pair_more c.args.parts.now c.args.mends.now _ c.requires c.loop-part.yielded c.into_iter-part-iterator.result c.loop-part.part-iterator
    c.next.new.self c.next.result (search rules) (search rules) c.loop-part.yielded_by
    given_by c.in-Some.part c.in-Some.mend c.in-Some.is c.next.ensures.steps c.args.version.now c.loop-part.version c.improve_part.new.version
    c.loop-part.invariant c.improve_part.ensures

pub returns : goal.returns
returns c =
    of_all c.args.parts.now c.args.mends.now _ c.requires c.loop-part.yielded c.into_iter-part-iterator.result c.loop-part.part-iterator
    c.next.new.self c.next.result (search rules) (search rules) c.loop-part.yielded_by
    (λ ps ms. c.loop-part.version ≡ patched c.args.version.now (given_patches ps ms)) c.in-None.is c.next.ensures.steps c.loop-part.invariant
