use Rattle.std.proofs.Common.{refl, arith, ◌<◌, ◌/◌, ◌^◌}
use Rattle.std.proofs.lemmas.Nat.{shr_below}
use Rattle.ffv1_rice.proofs.Windows.{leading_one, begins_later, front_parts}
use Rattle.ffv1_bits.specs.Bits.{number_bits}
use Rattle.ffv1_rice.specs.Codes.{code_bits}
use Rattle.ffv1_rice.specs.Inner.Codes.{BitsBegin}
use Rattle.ffv1_rice.proofs.code.short_ahead.Goals as goal

pub short_in-requires-clause-low : goal.short_in-requires-clause-low
short_in-requires-clause-low c =
    let small : c.in_ok-window.window / 2 ^ 24 < 2 ^ 32 = shr_below c.in_ok-window.window 32 24 c.in_ok-window.ensures.fits in
    (leading_one (c.in_ok-window.window / 2 ^ 24) _ small refl (omega (arith, c.if-zeros-ge-ESCAPE_ZEROS.false))).0

pub short_in-requires-clause-high : goal.short_in-requires-clause-high
short_in-requires-clause-high c =
    let small : c.in_ok-window.window / 2 ^ 24 < 2 ^ 32 = shr_below c.in_ok-window.window 32 24 c.in_ok-window.ensures.fits in
    (leading_one (c.in_ok-window.window / 2 ^ 24) _ small refl (omega (arith, c.if-zeros-ge-ESCAPE_ZEROS.false))).1

pub returns-clause-some : goal.returns-clause-some
returns-clause-some c =
    let later = c.in_ok-window.ensures.some in
    let window : BitsBegin (number_bits 56 c.in_ok-window.window) (code_bits c.args.depth c.in_ok-number.number c.args.k) _ =
    begins_later (number_bits 56 c.in_ok-window.window) (number_bits 32 (c.in_ok-window.window / 2 ^ 24)) (number_bits 24 c.in_ok-window.window)
    (code_bits c.args.depth c.in_ok-number.number c.args.k) _ (front_parts c.in_ok-window.window) c.in_ok-number.ensures.some in
    begins_later c.args.bits.now.left (number_bits 56 c.in_ok-window.window) later.0 (code_bits c.args.depth c.in_ok-number.number c.args.k) _ later.1 window
