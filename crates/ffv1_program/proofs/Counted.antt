-- How a try is counted that was counted alone.
use Rattle.std.proofs.Common.{◌≡◌, ◌∙◌, Bool, true, false, nat_lt, ap, refl, subst}
use Rattle.std.specs.Prelude.{IsTrue}
use Rattle.ffv1_devices.specs.Logs.{Tries}
use Rattle.ffv1_devices.specs.Streams.{failures_after, no_failures, CountsTry}

first_failure : (failed : Bool) → nat_lt 0 (failures_after failed 0) ≡ failed
first_failure true = refl
first_failure false = refl

-- it failed if a failure was counted, and was broken if one was that was no interruption
pub counted_so : (failed has_failed is_broken : Bool) (Broken : Type 0) (none one old new : Tries) → none ≡ no_failures → CountsTry failed Broken none one
    → has_failed ≡ nat_lt 0 one.failures → is_broken ≡ nat_lt 0 one.broken → CountsTry has_failed (IsTrue is_broken) old new
    → CountsTry failed Broken old new
counted_so failed has_failed is_broken Broken none one old new first counts fails breaks counted =
    let alone : CountsTry failed Broken no_failures one = subst (λ (t : Tries). CountsTry failed Broken t one) first counts in
    let same : has_failed ≡ failed = fails ∙ ap (nat_lt 0) alone.failures' ∙ first_failure failed in
    subst (λ (f : Bool). CountsTry f Broken old new) same (record {
      failures' = counted.failures';
      broken' = λ is. counted.broken' (breaks ∙ ap (nat_lt 0) ((alone.broken' is).0));
      unbroken = λ not. counted.unbroken (λ is. let whole : is_broken ≡ false = breaks ∙ ap (nat_lt 0) ((alone.unbroken not).0) in absurd (cc));
    })
