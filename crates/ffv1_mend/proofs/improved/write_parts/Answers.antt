use Rattle.std.proofs.Common.{rules, ◌≡◌, sym, subst}
use Rattle.ffv1_mend.specs.Inner.Improved.{IsFitting}
use Rattle.ffv1_mend.specs.Improved.{part_value, patched, whole_by, whole_patches}
use Rattle.ffv1_mend.proofs.PartSteps.{next_pair, pair_more, of_all}
use Rattle.ffv1_mend.proofs.improved.write_parts.Goals as goal

pub write_part-requires : goal.write_part-requires
write_part-requires c =
    let next = next_pair c.args.parts.now c.args.mends.now _ c.requires c.loop-part.yielded c.into_iter-part-iterator.result c.loop-part.part-iterator
    c.next.new.self c.next.result (search rules) (search rules) c.loop-part.yielded_by
    c.in-Some.part c.in-Some.mend c.in-Some.is c.next.ensures.steps in
    subst (λ n. IsFitting n c.in-Some.part.now (part_value c.in-Some.mend.now)) (sym c.loop-part.auto.bytes) next.fits

pub loop-part-preserved : goal.loop-part-preserved
loop-part-preserved c =
    pair_more c.args.parts.now c.args.mends.now _ c.requires c.loop-part.yielded c.into_iter-part-iterator.result c.loop-part.part-iterator
    c.next.new.self c.next.result (search rules) (search rules) c.loop-part.yielded_by
    whole_by c.in-Some.part c.in-Some.mend c.in-Some.is c.next.ensures.steps c.args.bytes.now c.loop-part.bytes c.write_part.new.bytes
    c.loop-part.invariant c.write_part.ensures

pub returns : goal.returns
returns c =
    of_all c.args.parts.now c.args.mends.now _ c.requires c.loop-part.yielded c.into_iter-part-iterator.result c.loop-part.part-iterator
    c.next.new.self c.next.result (search rules) (search rules) c.loop-part.yielded_by
    (λ ps ms. c.loop-part.bytes ≡ patched c.args.bytes.now (whole_patches ps ms)) c.in-None.is c.next.ensures.steps c.loop-part.invariant
