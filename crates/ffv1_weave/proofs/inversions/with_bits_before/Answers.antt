use Rattle.ffv1_weave.proofs.Common.{common_steps, rules, ◌≡◌, ◌*◌, ◌-◌, ◌+◌, ◌<◌, ◌/◌, ℕ, List, ◌∷◌, ◌++◌, length, get_or, ap, sym, ◌∙◌, arith, bits_of, remainder_of, IsFoundAmong, inversions_from, times_x, inverted, Slice}
use Rattle.ffv1_weave.proofs.OneBit.{power_shifted}
use Rattle.ffv1_weave.proofs.FoundSteps.{found_skipped}
use Rattle.ffv1_weave.proofs.InversionSteps.{found_bit_before}
use Rattle.ffv1_weave.proofs.inversions.with_bits_before.Goals.{then-shifts-at+in_ok-found, else-shifts-at}
use Rattle.ffv1_weave.proofs.inversions.with_bits_before.Goals as goal

pub loop-at-init : goal.loop-at-init
loop-at-init c =
    let none : c.args.bit ≡ c.args.bit - 0 = omega arith in
    grind (arith, common_steps)

pub loop-at-preserved : goal.loop-at-preserved
loop-at-preserved c =
    let bytes : List ℕ = c.loop-at.bytes in
    let at : ℕ = c.loop-at.at in
    let same : bytes ≡ c.args.bytes.now = c.loop-at.invariant.same in
    let long : length bytes ≡ length c.args.bytes.now = ap length same in
    let few : at < c.args.bit = omega (arith, c.loop-at-test.true, c.min-at-end.ensures) in
    let fewer : at < 64 = omega (arith, c.loop-at-test.true, c.min-at-end.ensures) in
    let next : ℕ = c.args.bit - 1 - at in
    let near : next + 1 ≡ c.args.bit - at = omega arith in
    let inside : next < 8 * length bytes = omega (arith, long, c.requires.within) in
    let small : get_or bytes (next / 8) 0 < 256 = search rules in
    let here : next ≡ c.args.bit - (at + 1) = omega arith in
    let kept : c.if-shifts-at.bytes ≡ bytes = elim c.if-shifts-at.branch [
      | then-shifts-at+in_ok-found w ↦ w.bytes-is ∙ w.with_inverted.ensures.same
      | else-shifts-at w ↦ w.bytes-is
    ] in
    let more : (tried : List (List ℕ)) → IsFoundAmong Slice tried c.loop-at.found → IsFoundAmong Slice (inverted bytes next ∷ tried) c.if-shifts-at.found = λ tried h.
    elim c.if-shifts-at.branch [
      | then-shifts-at+in_ok-found w ↦ rw w.found-is (w.in_ok-found.ensures.found tried h)
      | else-shifts-at w ↦ rw w.found-is (found_skipped Slice (inverted bytes next) tried (λ passes.
          let shift : get_or c.args.shifts.now (64 - 1 - at) 0 ≡ times_x (remainder_of (bits_of bytes)) (64 - 1 - at + 1) =
          c.requires.shifts (64 - 1 - at) (omega arith) ∙ ap (λ xs. times_x (remainder_of (bits_of xs)) (64 - 1 - at + 1)) (sym same) in
          let far : 8 * length bytes - 1 - next + (64 - 1 - at + 1) ≡ 8 * length c.args.bytes.now - c.args.bit + 64 = omega (arith, long, c.requires.within) in
          w.if-shifts-at.false (shift ∙ power_shifted bytes next (64 - 1 - at + 1) inside small passes ∙ ap (times_x 1) far ∙ sym c.requires.power))
          c.loop-at.found h)
    ] in
    record {
      same = kept ∙ same;
      found = λ tried h.
          let before = c.loop-at.invariant.found tried (rw (← kept) h) in
          rw kept (rw (← here) (found_bit_before bytes next (c.args.bit - at) tried near inside c.if-shifts-at.found
          (more (inversions_from bytes (c.args.bit - at) (8 * length bytes - (c.args.bit - at)) ++ tried) before)));
    }

pub returns-clause-found : goal.returns-clause-found
returns-clause-found c = λ tried h.
    let bytes : List ℕ = c.args.bytes.now in
    let same : c.loop-at.bytes ≡ bytes = c.loop-at.invariant.same in
    let all : c.args.bit - c.loop-at.at ≡ c.args.bit - 64 = omega (arith, c.loop-at-test.false, c.min-at-end.ensures, c.loop-at.auto.at-end) in
    let found = c.loop-at.invariant.found tried (rw same h) in
    rw (← all) (rw (← same) found)
