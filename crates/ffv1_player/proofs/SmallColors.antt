-- The planes of a slice's picture, as the small definitions have them.
use Rattle.std.proofs.Common.{◌≡◌, ℕ, zero, suc, ◌<◌, ◌^◌, Bool, true, false, List, length, pos, sym, subst, arith, inl, inr}
use Rattle.std.specs.Prelude.{MatchBool, slice_index}
use Rattle.std.proofs.lemmas.Bool.{cases_lt}
use Rattle.std.proofs.lemmas.Int.{ints}
use Rattle.std.proofs.lemmas.Nat.{pow_pos}
use Rattle.std.proofs.lemmas.List.{get_or_past}
use Rattle.ffv1_range.specs.Setup.{RecordingValue}
use Rattle.ffv1_colors.specs.Colors.{coded_of, IsOfBits, IsColor}
use Rattle.ffv1_colors.specs.Planes.{coded_at}
use Rattle.ffv1_samples.specs.Pictures.{color_coding, slice_plane_at, three_planes, AreRgbPlanes, ArePicturePlanes}
use Rattle.ffv1_player.specs.SmallSlices.{AreCodedOfColors}

below : (bits n : ℕ) → IsOfBits bits (pos n) → n < 2 ^ bits
below bits n h = let high = h.high in omega (arith, ints, high)

of_bits : (bits n : ℕ) → n < 2 ^ bits → IsOfBits bits (pos n)
of_bits bits n less = record { low = omega (arith, ints); high = omega (arith, ints, less) }

module _ (r : RecordingValue) (coded planes : List (List ℕ)) where
  module _ (h : AreRgbPlanes r coded planes) where
    long_to : (p : ℕ) → p < 3 → length (slice_plane_at planes p) ≡ length (slice_plane_at coded 0)
    long_to zero less = h.colors.first_long
    long_to (suc zero) less = h.colors.second_long
    long_to (suc (suc zero)) less = h.colors.third_long
    long_to (suc (suc (suc p))) less = absurd (omega (arith, less))

    color_small : (p s : ℕ) → IsColor (color_coding r) (coded_at (three_planes planes) s) → p < 3 → slice_index (slice_plane_at planes p) s < 2 ^ r.depth
    color_small zero s color less = below r.depth _ color.first
    color_small (suc zero) s color less = below r.depth _ color.second
    color_small (suc (suc zero)) s color less = below r.depth _ color.third
    color_small (suc (suc (suc p))) s color less = absurd (omega (arith, less))

    small_by : (p s : ℕ) → p < 3 → slice_index (slice_plane_at planes p) s < 2 ^ r.depth
    small_by p s less = elim (cases_lt s (length (slice_plane_at coded 0))) [
      | inl inside ↦ color_small p s (h.colors.colors s inside) less
      | inr past ↦
          let least : 0 < 2 ^ r.depth = pow_pos r.depth in
          subst (λ n. n < 2 ^ r.depth) (sym (get_or_past (slice_plane_at planes p) s 0 (omega (arith, past, long_to p less)))) least
    ]

    small_to : (p s : ℕ) → p < 4 → slice_index (slice_plane_at planes p) s < 2 ^ r.depth
    small_to p s less = elim (cases_lt p 3) [
      | inl few ↦ small_by p s few
      | inr more ↦
          let is : 3 ≡ p = omega (arith, more, less) in
          subst (λ k. slice_index (slice_plane_at planes k) s < 2 ^ r.depth) is
          (subst (λ (l : List ℕ). slice_index l s < 2 ^ r.depth) (sym h.alpha) (h.alpha_fits s))
    ]

    colors_to : AreCodedOfColors r coded planes
    unfolding coded_of
    colors_to = record { count = h.count; long = long_to; small = small_to; colors = λ s less. h.colors.coded_so s less; alpha = h.alpha }

  colors_from : AreCodedOfColors r coded planes → AreRgbPlanes r coded planes
  unfolding coded_of
  colors_from h =
      record {
        count = h.count;
        colors = record {
          first_long = h.long 0 (omega arith);
          second_long = h.long 1 (omega arith);
          third_long = h.long 2 (omega arith);
          coded_so = λ s less. h.colors s less;
          colors = λ s less. record {
            first = of_bits r.depth (slice_index (slice_plane_at planes 0) s) (h.small 0 s (omega arith));
            second = of_bits r.depth (slice_index (slice_plane_at planes 1) s) (h.small 1 s (omega arith));
            third = of_bits r.depth (slice_index (slice_plane_at planes 2) s) (h.small 2 s (omega arith));
          };
        };
        alpha = h.alpha;
        alpha_fits = λ s. subst (λ (l : List ℕ). slice_index l s < 2 ^ r.depth) h.alpha (h.small 3 s (omega arith));
      }

  to_by : (b : Bool) → MatchBool b (AreRgbPlanes r coded planes) (planes ≡ coded) → MatchBool b (AreCodedOfColors r coded planes) (planes ≡ coded)
  to_by true h = colors_to h
  to_by false h = h

  from_by : (b : Bool) → MatchBool b (AreCodedOfColors r coded planes) (planes ≡ coded) → MatchBool b (AreRgbPlanes r coded planes) (planes ≡ coded)
  from_by true h = colors_from h
  from_by false h = h

  pub planes_to : ArePicturePlanes r coded planes → MatchBool r.is_rgb (AreCodedOfColors r coded planes) (planes ≡ coded)
  planes_to h = to_by r.is_rgb h

  pub planes_from : MatchBool r.is_rgb (AreCodedOfColors r coded planes) (planes ≡ coded) → ArePicturePlanes r coded planes
  planes_from h = from_by r.is_rgb h
