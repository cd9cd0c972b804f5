use Rattle.std.proofs.Common.{◌+◌, ◌-◌, ◌*◌, ◌^◌, ◌≤◌, false, arith, ap, refl}
use Rattle.std.proofs.lemmas.Result.{err_from_is_err_and}
use Rattle.ffv1_range.proofs.SymbolForms.{low_turn, low_fails, low_end, fits_more, fits_now}
use Rattle.ffv1_range.proofs.Slots.{keeps-trans}
use Rattle.ffv1_range.proofs.Forms.{at_ok}
use Rattle.ffv1_range.proofs.coding.RangeDecoder.magnitude.Goals as goal
use Rattle.ffv1_range.proofs.coding.RangeDecoder.magnitude.Goals.{After-from}

pub returns-in_err-bit-clause-read : goal.returns-in_err-bit-clause-read
returns-in_err-bit-clause-read c =
    let p = err_from_is_err_and c.from_residual.result c.from_residual.ensures.1 in
    rw (p.1, p.2)
    (low_fails c.args.exponent c.loop-place.place (c.loop-place.place - 1) c.loop-place.magnitude (22 + c.min.result) c.in_err-bit.field-0.0
    c.args.self.now c.loop-place.self c.even_slot.new.self c.args.states.now c.loop-place.states c.even_slot.new.states
    (omega arith) (ap (λ x. 22 + x) c.min.ensures) c.loop-place.invariant.going c.in_err-bit.ensures.read)

fits : (c : After-from) → (2 * c.loop-place.magnitude + c.from.result + 1) * 2 ^ (c.loop-place.place - 1) ≤ 2 ^ 32
fits c =
    fits_more c.loop-place.place (c.loop-place.place - 1) c.loop-place.magnitude c.from.result c.in_ok-bit.bit
    (omega arith) c.from.ensures c.loop-place.invariant.fits

pub overflow_mul-magnitude : goal.overflow_mul-magnitude
overflow_mul-magnitude c =
    let p = fits_more c.loop-place.place (c.loop-place.place - 1) c.loop-place.magnitude 0 false (omega arith) refl c.loop-place.invariant.fits in
    let q = fits_now (c.loop-place.place - 1) (2 * c.loop-place.magnitude + 0) p in
    omega arith

pub overflow_add-magnitude : goal.overflow_add-magnitude
overflow_add-magnitude c =
    let q = fits_now (c.loop-place.place - 1) (2 * c.loop-place.magnitude + c.from.result) (fits c) in omega arith

pub loop-place-preserved : goal.loop-place-preserved
loop-place-preserved c =
    record {
      going =
          low_turn c.args.exponent c.loop-place.place (c.loop-place.place - 1) c.loop-place.magnitude (22 + c.min.result) c.from.result c.in_ok-bit.bit
          c.args.self.now c.loop-place.self c.even_slot.new.self c.args.states.now c.loop-place.states c.even_slot.new.states
          (omega arith) (ap (λ x. 22 + x) c.min.ensures) c.from.ensures c.loop-place.invariant.going c.in_ok-bit.ensures.read;
      alive = (c.in_ok-bit.ensures.read.0, at_ok c.loop-place.self c.even_slot.new.self c.in_ok-bit.ensures.read.0 c.in_ok-bit.ensures.read.2);
      states = keeps-trans c.args.self.now c.loop-place.self c.args.states.now c.loop-place.states c.even_slot.new.states c.loop-place.invariant.going.reader c.loop-place.invariant.states c.in_ok-bit.ensures.states;
      fits = fits c;
    }

pub returns-clause-read : goal.returns-clause-read
returns-clause-read c =
    low_end c.args.exponent c.loop-place.place c.loop-place.magnitude c.args.self.now c.loop-place.self c.args.states.now c.loop-place.states
    c.loop-place.invariant.alive.0 (omega arith) c.loop-place.invariant.alive.1 c.loop-place.invariant.going

pub returns-in_err-bit-clause-states : goal.returns-in_err-bit-clause-states
returns-in_err-bit-clause-states c =
    keeps-trans c.args.self.now c.loop-place.self c.args.states.now c.loop-place.states c.even_slot.new.states c.loop-place.invariant.going.reader
    c.loop-place.invariant.states c.in_err-bit.ensures.states

pub returns-clause-states : goal.returns-clause-states
returns-clause-states c = c.loop-place.invariant.states
