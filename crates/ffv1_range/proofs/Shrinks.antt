-- What a range coder has still to read never grows.
use Rattle.std.proofs.Common.{◌≡◌, ℕ, ◌+◌, ◌-◌, ◌*◌, ◌/◌, ◌≤◌, Bool, true, false, List, [], ◌∷◌, length, Result, Ok, ap, arith}
use Rattle.std.specs.Prelude.{nat_lt, slice_index, slice_set, if◌then◌else◌}
use Rattle.ffv1_range.specs.Results.{◌>>>◌}
use Rattle.ffv1_range.specs.Transitions.{state_following}
use Rattle.ffv1_range.specs.Coding.{Coder, Mode, Place, PlaceOf, with_byte, refilled, bit_at, slot_at, IsRangeRun}
use Rattle.ffv1_range.specs.Rows.{Rows, with_row, RowBits, IsRowsRun}
use Rattle.ffv1_range.specs.declared.coding.RangeFault.{RangeFault}
use Rattle.ffv1_range.proofs.Forms.{place_of}
use Rattle.ffv1_range.proofs.Spelling.{bind_is_ok, same_ok}

refilled_shrinks : (closed : Bool) (range low : ℕ) (rest : List ℕ) (d : Coder) → refilled closed range low rest ≡ Ok d → length d.rest ≤ length rest
refilled_shrinks closed range low rest d h =
    elim (nat_lt range 256) as (λ b. (if b then with_byte closed range low rest else Ok (record { range = range; low = low; rest = rest })) ≡ Ok d
    → length d.rest ≤ length rest) [
      | true ↦ λ e. byte_shrinks closed range low rest d e
      | false ↦ λ e. let same = same_ok (record { range = range; low = low; rest = rest }) d e in omega (arith, ap (λ z. length z.rest) same)
    ] h
  where
    byte_shrinks : (closed : Bool) (range low : ℕ) (rest : List ℕ) (d : Coder) → with_byte closed range low rest ≡ Ok d → length d.rest ≤ length rest
    byte_shrinks closed range low (byte ∷ rest) d h = omega (
      arith,
      ap
          (λ z. length z.rest) (same_ok (record { range = 256 * range; low = 256 * low + byte; rest = rest }) d h),
    )
    byte_shrinks true range low [] d h = omega (arith, ap (λ z. length z.rest) (same_ok (record { range = 256 * range; low = 256 * low; rest = [] }) d h))
    byte_shrinks false range low [] d h = absurd cc

abbrev pub with_bit : Bool → Coder → Result (Bool × Coder) RangeFault
with_bit bit d = Ok (bit, d)

cut_shrinks : (closed : Bool) (range low : ℕ) (rest : List ℕ) (given bit : Bool) (d : Coder)
    → (refilled closed range low rest >>> with_bit given) ≡ Ok (bit, d) → length d.rest ≤ length rest
cut_shrinks closed range low rest given bit d h =
    let x = bind_is_ok (refilled closed range low rest) (with_bit given) (bit, d) h in
    let same = same_ok (given, x.0) (bit, d) x.2 in
    omega (arith, refilled_shrinks closed range low rest x.0 x.1, ap (λ z. length z.1.rest) same)

pub bit_shrinks : (closed : Bool) (c d : Coder) (state : ℕ) (bit : Bool) → bit_at closed c state ≡ Ok (bit, d) → length d.rest ≤ length c.rest
unfolding bit_at
bit_shrinks closed c d state bit h =
    elim (nat_lt c.low (c.range - c.range * state / 256)) as
    (λ b. (if b then (refilled closed (c.range - c.range * state / 256) c.low c.rest >>> with_bit false) else
    (refilled closed (c.range * state / 256) (c.low - (c.range - c.range * state / 256)) c.rest >>> with_bit true)) ≡ Ok (bit, d)
    → length d.rest ≤ length c.rest) [
      | true ↦ λ e. cut_shrinks closed (c.range - c.range * state / 256) c.low c.rest false bit d e
      | false ↦ λ e. cut_shrinks closed (c.range * state / 256) (c.low - (c.range - c.range * state / 256)) c.rest true bit d e
    ] h

slot_shrinks : (mode : Mode) (p q : Place) (slot : ℕ) (bit : Bool) → slot_at mode p slot ≡ Ok (bit, q) → length q.coder.rest ≤ length p.coder.rest
unfolding slot_at
slot_shrinks mode p q slot bit h =
    let x = bind_is_ok (bit_at mode.closed p.coder (slice_index p.states slot))
    (λ x. Ok (x.0, place_of x.1 (slice_set p.states slot (state_following mode.transitions (slice_index p.states slot) x.0)))) (bit, q) h in
    let same = same_ok (x.0.0, place_of x.0.1 (slice_set p.states slot (state_following mode.transitions (slice_index p.states slot) x.0.0))) (bit, q) x.2 in
    omega (arith, bit_shrinks mode.closed p.coder x.0.1 (slice_index p.states slot) x.0.0 x.1, ap (λ z. length z.1.coder.rest) same)

pub run_shrinks : (mode : Mode) (p q : Place) (bits : List (ℕ × Bool)) → IsRangeRun mode p bits q → length q.coder.rest ≤ length p.coder.rest
unfolding IsRangeRun
run_shrinks mode p q [] h = omega (arith, ap (λ z. length z.coder.rest) h)
run_shrinks mode p q (x ∷ bits) h = omega (arith, slot_shrinks mode p h.0 x.0 x.1 h.1, run_shrinks mode h.0 q bits h.2)

pub rows_shrink : (mode : Mode) (p q : PlaceOf Rows) (bits : List RowBits) → IsRowsRun mode p bits q → length q.coder.rest ≤ length p.coder.rest
unfolding IsRowsRun
rows_shrink mode p q [] h = omega (arith, ap (λ z. length z.coder.rest) h)
rows_shrink mode p q (row ∷ bits) h =
    omega (arith, run_shrinks mode (place_of p.coder (p.states row.0)) h.0 row.1 h.1, rows_shrink mode (place_of h.0.coder (with_row p.states row.0 h.0.states)) q bits h.2)
