use Rattle.ffv1_weave.proofs.Common.{rules, ◌≡◌, ◌*◌, ◌-◌, ◌+◌, ◌/◌, ◌%◌, ◌<◌, ℕ, false, List, ◌++◌, length, get_or, ap, sym, ◌∙◌, subst, refl, arith, false≢true, bits_of, remainder_of, IsFoundAmong, inversions_from, times_x, Slice}
use Rattle.ffv1_weave.proofs.OneBit.{power_left, power_shifted, eight_zeros}
use Rattle.ffv1_weave.proofs.InversionSteps.{found_all_bits, found_bits_skipped}
use Rattle.ffv1_weave.proofs.inversions.with_inversions.Goals.{then-marks-power+in_ok-found, else-marks-power}
use Rattle.ffv1_weave.proofs.inversions.with_inversions.Goals as goal

pub loop-bit-init : goal.loop-bit-init
loop-bit-init c =
    let none : 0 ≡ 8 * length c.args.bytes.now - 8 * length c.args.bytes.now = omega arith in
    record {
      same = refl;
      within = omega arith;
      power = λ some. (0, omega arith, refl);
      found = λ tried h.
          subst (λ n. IsFoundAmong Slice (inversions_from c.args.bytes.now (8 * length c.args.bytes.now) n ++ tried) c.args.found) none h;
    }

pub with_bits_before-requires-clause-power : goal.with_bits_before-requires-clause-power
with_bits_before-requires-clause-power c =
    let at = c.loop-bit.invariant.power c.loop-bit-test.true in
    let exponent : 64 * at.0 + 64 ≡ 8 * length c.loop-bit.bytes - c.loop-bit.bit + 64 = omega (arith, at.1) in
    eight_zeros at.0 c.loop-bit.power c.remainder_after-power.result at.2 c.remainder_after-power.ensures ∙ ap (times_x 1) exponent

pub loop-bit-preserved : goal.loop-bit-preserved
loop-bit-preserved c =
    let bytes : List ℕ = c.loop-bit.bytes in
    let bit : ℕ = c.loop-bit.bit in
    let next : ℕ = c.saturating_sub-bit.result in
    let at = c.loop-bit.invariant.power c.loop-bit-test.true in
    let is : next ≡ bit - 64 = omega (arith, c.saturating_sub-bit.ensures) in
    let kept : c.if-marks-power.bytes ≡ bytes = elim c.if-marks-power.branch [
      | then-marks-power+in_ok-found w ↦ w.bytes-is ∙ w.with_bits_before.ensures.same
      | else-marks-power w ↦ w.bytes-is
    ] in
    let long : length c.if-marks-power.bytes ≡ length bytes = ap length kept in
    let power : c.remainder_after-power.result ≡ times_x 1 (64 * at.0 + 64) =
    eight_zeros at.0 c.loop-bit.power c.remainder_after-power.result at.2 c.remainder_after-power.ensures in
    let more : (tried : List (List ℕ)) → IsFoundAmong Slice (inversions_from bytes bit (8 * length bytes - bit) ++ tried) c.loop-bit.found
    → IsFoundAmong Slice (inversions_from bytes (bit - 64) (8 * length bytes - (bit - 64)) ++ tried) c.if-marks-power.found = λ tried h.
    elim c.if-marks-power.branch [
      | then-marks-power+in_ok-found w ↦ rw w.found-is (w.in_ok-found.ensures.found tried h)
      | else-marks-power w ↦ rw w.found-is (found_bits_skipped bytes bit tried c.loop-bit.invariant.within c.loop-bit.found 64 (λ before low high passes.
          let j : ℕ = 63 - (bit - 1 - before) in
          let small : get_or bytes (before / 8) 0 < 256 = search rules in
          let exponent : 8 * length bytes - 1 - before + (j + 1) ≡ 64 * at.0 + 64 = omega (arith, at.1) in
          let shift : get_or c.shifts-shifts.result j 0 ≡ c.remainder_after-power.result =
          c.shifts-shifts.ensures j (omega arith) ∙ ap (λ r. times_x r (j + 1)) c.remainder.ensures
          ∙ ap (λ xs. times_x (remainder_of (bits_of xs)) (j + 1)) (sym c.loop-bit.invariant.same)
          ∙ power_shifted bytes before (j + 1) (omega (arith, c.loop-bit.invariant.within)) small passes ∙ ap (times_x 1) exponent ∙ sym power in
          absurd (false≢true (sym w.if-marks-power.false ∙ ap (λ p. get_or c.marked-marks.result (p % 1024) false) (sym shift)
          ∙ c.marked-marks.ensures j (omega arith))))
          h)
    ] in
    record {
      same = kept ∙ c.loop-bit.invariant.same;
      within = let low = c.loop-bit.invariant.within in omega (arith, is, long);
      power = λ some. let exponent : 64 * at.0 + 64 ≡ 64 * (at.0 + 1) = omega arith in (at.0 + 1, omega (arith, at.1, is, long), power ∙ ap power_left exponent);
      found = λ tried h.
          rw kept (rw is (more tried (c.loop-bit.invariant.found tried h)));
    }

pub returns-clause-found : goal.returns-clause-found
returns-clause-found c = λ tried h.
    let none : c.loop-bit.bit ≡ 0 = omega (arith, c.loop-bit-test.false) in
    found_all_bits c.loop-bit.bytes c.args.bytes.now c.loop-bit.bit tried none c.loop-bit.invariant.same c.loop-bit.found (c.loop-bit.invariant.found tried h)
