use Rattle.std.proofs.Common.{IsTrue, rules, subst}
use Rattle.ffv1_bits.specs.Limits.{greatest_side}
use Rattle.ffv1_range.specs.Setup.{IsSetupOf}
use Rattle.ffv1_vectors.specs.Asked.{asked_setup}
use Rattle.ffv1_vectors.proofs.AskedSetup.{asked_is_read}
use Rattle.ffv1_vectors.proofs.record.make_record.Goals as goal

pub returns : goal.returns
returns c =
    let yes : IsTrue c.is_asked.result = search rules in
    let is = c.is_asked.ensures in
    record {
      asked = subst (λ z. IsSetupOf z greatest_side greatest_side (asked_setup c.args.spec.now)) c.deref.ensures.value
          (asked_is_read c.deref.result.now c.in-Ok.setup c.args.spec.now c.in-Ok.ensures.found (is.fields yes) (is.count yes) (is.sets yes));
      profile = is.profile yes;
    }
