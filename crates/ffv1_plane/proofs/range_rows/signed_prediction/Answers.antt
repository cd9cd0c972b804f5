use Rattle.std.proofs.Common.{arith, to_z, of_z, w64, ◌≡◌, refl}
use Rattle.std.proofs.lemmas.Int.{ints, to_z-of_z}
use Rattle.ffv1_plane.specs.RangeRows.{signed_prediction_of}
use Rattle.ffv1_plane.proofs.SignedMedians.{IsNear, median_is_signed}
use Rattle.ffv1_plane.proofs.range_rows.signed_prediction.Goals as goal

pub returns : goal.returns
unfolding signed_prediction_of
returns c =
    let left_near : IsNear c.signed_16-left.result = record { low = c.signed_16-left.ensures.low; high = c.signed_16-left.ensures.high } in
    let top_near : IsNear c.signed_16-top.result = record { low = c.signed_16-top.ensures.low; high = c.signed_16-top.ensures.high } in
    let corner_near : IsNear c.signed_16.result = record { low = c.signed_16.ensures.low; high = c.signed_16.ensures.high } in
    let m =
    median_is_signed c.signed_16-left.result c.signed_16-top.result c.signed_16.result c.min.result c.max.result c.min-2.result c.max-median.result left_near top_near
    corner_near c.min.ensures.value c.max.ensures.value c.min-2.ensures.value c.max-median.ensures.value in
    let low = c.rem_euclid.ensures.lower_bound in
    let high = c.rem_euclid.ensures.upper_bound in
    let rest_kept : to_z w64 (of_z w64 c.rem_euclid.result) ≡ c.rem_euclid.result = to_z-of_z w64 c.rem_euclid.result (omega (arith, ints)) in
    rw (rest_kept, c.rem_euclid.ensures.value, m, c.signed_16-left.ensures.value, c.signed_16-top.ensures.value, c.signed_16.ensures.value, ← c.near.view_is) refl
