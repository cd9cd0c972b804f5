-- The prediction by signed numbers of 16 bits, as the code computes it by signed numbers of 64 bits.
use Rattle.std.proofs.Common.{◌≡◌, ℤ, pos, neg_ℤ, ◌+ℤ◌, ◌-ℤ◌, ◌≤ℤ◌, ◌<ℤ◌, arith, to_z, of_z, w64, refl}
use Rattle.std.specs.Int.{int_max, int_min}
use Rattle.std.proofs.lemmas.Int.{ints, clamps, to_z-of_z}
use Rattle.ffv1_plane.specs.RangeRows.{signed_median}

abbrev kept : ℤ → ℤ
kept z = to_z w64 (of_z w64 z)

-- what a sample of 32 bits at most is as a signed number of 16 bits
pub record IsNear (z : ℤ) : Type 0 where
  pub low : neg_ℤ (pos 32768) ≤ℤ z
  pub high : z <ℤ pos 4294967296

kept_near : (z : ℤ) → IsNear z → kept z ≡ z
kept_near z near = let low = near.low in let high = near.high in to_z-of_z w64 z (omega (arith, ints))

pub median_is_signed : (l t c low high second median : ℤ) → IsNear l → IsNear t → IsNear c → low ≡ int_min (kept l) (kept t) → high ≡ int_max (kept l) (kept t)
    → second ≡ int_min (kept high) (kept (kept (kept l +ℤ kept t) -ℤ kept c)) → median ≡ int_max (kept low) (kept second)
    → kept median ≡ signed_median l t ((l +ℤ t) -ℤ c)
median_is_signed l t c low high second median near_l near_t near_c low_is high_is second_is median_is =
    let left_low = near_l.low in let left_high = near_l.high in
    let top_low = near_t.low in let top_high = near_t.high in
    let corner_low = near_c.low in let corner_high = near_c.high in
    let lower : low ≡ int_min l t = (rw (kept_near l near_l, kept_near t near_t) at low_is) in
    let higher : high ≡ int_max l t = (rw (kept_near l near_l, kept_near t near_t) at high_is) in
    let lower_kept : kept low ≡ low = to_z-of_z w64 low (omega (arith, ints, clamps, lower)) in
    let higher_kept : kept high ≡ high = to_z-of_z w64 high (omega (arith, ints, clamps, higher)) in
    let both : kept (l +ℤ t) ≡ l +ℤ t = to_z-of_z w64 (l +ℤ t) (omega (arith, ints)) in
    let slope : kept ((l +ℤ t) -ℤ c) ≡ (l +ℤ t) -ℤ c = to_z-of_z w64 ((l +ℤ t) -ℤ c) (omega (arith, ints)) in
    let second_as : second ≡ int_min high ((l +ℤ t) -ℤ c) =
    (rw (kept_near l near_l, kept_near t near_t, kept_near c near_c, both, slope, higher_kept) at second_is) in
    let second_kept : kept second ≡ second = to_z-of_z w64 second (omega (arith, ints, clamps, second_as, higher)) in
    let median_as : median ≡ int_max low second = (rw (lower_kept, second_kept) at median_is) in
    let median_kept : kept median ≡ median = to_z-of_z w64 median (omega (arith, ints, clamps, median_as, second_as, lower, higher)) in
    rw (median_kept, median_as, second_as, lower, higher) refl
