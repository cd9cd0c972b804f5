use Rattle.ffv1_splice.proofs.Common.{length, ap, sym, ◌∙◌, nowhere}
use Rattle.ffv1_splice.proofs.SpliceSteps.{length_of_first}
use Rattle.ffv1_splice.proofs.splicing.splice.Goals as goal

pub fill-requires-clause-long : goal.fill-requires-clause-long
fill-requires-clause-long c = λ k d lt.
    length_of_first c.args.copies.now c.requires c.in_default.ensures k d lt
    ∙ sym (length_of_first c.args.copies.now c.requires c.in_default.ensures 0 nowhere c.requires)
    ∙ sym (ap length c.in_ok-payload.ensures.items) ∙ sym (ap length c.deref_mut.ensures.value)
