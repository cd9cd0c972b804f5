-- How one try is counted, and many interrupted ones.
use Rattle.std.proofs.Common.{◌≡◌, ℕ, ◌+◌, ◌-◌, ◌^◌, ◌<◌, ◌≤◌, arith, inl, inr, refl, ⊎_elim, le_refl, le_trans, ◌∙◌, Bool, true, false, nat_lt}
use Rattle.std.specs.Prelude.{◌==◌, if◌then◌else◌}
use Rattle.std.proofs.lemmas.Bool.Decides.{nat_tests}
use Rattle.ffv1_devices.specs.Streams.{failures_after, CountsTry}
use Rattle.ffv1_devices.specs.Logs.{Tries, GoesOn, GivesUp, HasFailed, HasCounted}
use Rattle.ffv1_devices.proofs.Steps.{failed-after}

-- a count after a failure
record CountsOne (old new : ℕ) : Type 0 where
  least : old ≤ new
  most : new ≤ old + 1
  failed : HasFailed old new

counts_one : (old new : ℕ) → new ≡ failures_after true old → CountsOne old new
counts_one old new e = record { least = grind (arith, nat_tests); most = grind (arith, nat_tests); failed = grind (arith, nat_tests) }

-- n interrupted tries in a row
pub record Interrupted (n : ℕ) (old new : Tries) : Type 0 where
  pub unbroken : new.broken ≡ old.broken
  pub counted : old.failures ≤ new.failures
  pub failed : 0 < n → HasFailed old.failures new.failures
  pub each : HasCounted n old.failures new.failures
  pub most : new.failures ≤ old.failures + n
  pub row : n ≤ 2 ^ 64 - 1 → n ≤ new.in_row

pub none_interrupted : (a : Tries) → Interrupted 0 a a
none_interrupted a =
    record { unbroken = refl; counted = le_refl _; failed = λ h. absurd (omega arith); each = inl (omega arith); most = omega arith; row = λ h. omega arith }

counted-more : (n old mid new : ℕ) → HasCounted n old mid → CountsOne mid new → HasCounted (n + 1) old new
counted-more n old mid new h one =
    ⊎_elim
    (λ (p : old + n ≤ mid). ⊎_elim (λ (q : mid < new). inl (omega arith)) (λ (q : 2 ^ 64 - 1 ≤ new). inr q) one.failed)
    (λ (p : 2 ^ 64 - 1 ≤ mid). inr (le_trans p one.least))
    h

row_more : (n mid new : ℕ) → n + 1 ≤ 2 ^ 64 - 1 → n ≤ mid → new ≡ failures_after true mid → n + 1 ≤ new
row_more n mid new h le e = grind (arith, nat_tests)

module _ (n : ℕ) (a b c : Tries) (p : Interrupted n a b) (failed : Bool) (Broken : Type 0) (t : CountsTry failed Broken b c) where
  -- one more try was interrupted
  pub one_more : failed ≡ true → ¬ Broken → Interrupted (n + 1) a c
  one_more e not =
      let one = counts_one b.failures c.failures (t.failures' ∙ (λ i. failures_after (e i) b.failures)) in
      record {
        unbroken = (t.unbroken not).0 ∙ p.unbroken;
        counted = le_trans p.counted one.least;
        failed = λ h. failed-after _ _ _ p.counted one.failed;
        each = counted-more _ _ _ _ p.each one;
        most = omega (arith, p.most, one.most);
        row = λ h. row_more n b.in_row c.in_row h (p.row (omega arith)) ((t.unbroken not).1 ∙ (λ i. if e i then failures_after true b.in_row else 0));
      }

  -- a try after them failed, and was not interrupted
  pub broken_after : failed ≡ true → Broken → GivesUp a c
  broken_after e is =
      let one = counts_one b.failures c.failures (t.failures' ∙ (λ i. failures_after (e i) b.failures)) in
      let broken = counts_one b.broken c.broken (t.broken' is).0 in
      record {
        counted = le_trans p.counted one.least;
        failed = failed-after _ _ _ p.counted one.failed;
        gave_up = inl (failed-after _ _ _ (omega (arith, p.unbroken)) broken.failed);
        broken_once = omega (arith, p.unbroken, broken.most);
      }

  -- no more tries failed than one
  pub most_after : c.failures ≤ a.failures + (n + 1)
  most_after = grind (arith, nat_tests, t.failures', p.most)

  -- a try after them went well
  pub went_after : failed ≡ false → ¬ Broken → GoesOn a c
  went_after e not = record {
    counted = omega (arith, p.counted, t.failures' ∙ (λ i. failures_after (e i) b.failures));
    unbroken = (t.unbroken not).0 ∙ p.unbroken;
    last = inl ((t.unbroken not).1 ∙ (λ i. if e i then failures_after true b.in_row else 0));
  }

-- that many in a row are a failure
pub given_up : (n : ℕ) (a b : Tries) → n ≡ 65 → Interrupted n a b → GivesUp a b
given_up n a b e p = record {
  counted = p.counted;
  failed = p.failed (omega arith);
  gave_up = inr (rw e at p.each, omega (arith, p.row (omega arith)));
  broken_once = omega (arith, p.unbroken);
}

pub took_none : (n size : ℕ) → n ≡ 0 → 0 < size → (if n == 0 then nat_lt 0 size else false) ≡ true
took_none n size e h = grind (arith, nat_tests)

pub took_some : (n size : ℕ) → (n ≡ 0 → ⊥) → (if n == 0 then nat_lt 0 size else false) ≡ false
took_some n size h = grind (arith, nat_tests)
