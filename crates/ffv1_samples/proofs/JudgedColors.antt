-- The first sample of RGB and alpha that is no number of the picture's bits.
use Rattle.std.proofs.Common.{◌≡◌, ℕ, ◌<◌, ◌≤◌, ◌^◌, Bool, true, false, List, [], length, map, get_or, Vec, Global, refl, sym, ap, ◌∙◌, subst, arith, inl, inr, ⊎_elim, ◌*◌, take, min, pos, ◌⊎◌}
use Rattle.std.specs.Prelude.{slice_index, nat_lt, Option, Some, None, IfSome, IfNone, if◌then◌else◌}
use Rattle.std.proofs.lemmas.Bool.{cases_lt, cases_order, ltb-true, ltb-false}
use Rattle.std.proofs.lemmas.List.{get_or-map, get_or-take, get_or_past, length-take}
use Rattle.ffv1_range.specs.Setup.{RecordingValue}
use Rattle.ffv1_colors.specs.Colors.{CodingValue, are_swapped, colors_of, IsColor, IsOfBits, IsFirstOutside, Samples as ThreeSamples}
use Rattle.ffv1_colors.specs.Planes.{ThreePlanes, coded_at, AreColorsOf, IsFirstOutsideAt}
use Rattle.ffv1_colors.proofs.Back.{colors_are_back}
use Rattle.ffv1_plane.specs.FirstRows.{AreFirstRows}
use Rattle.ffv1_plane.specs.RangeSlices.{size_at}
use Rattle.ffv1_plane.specs.declared.planes.PlaneSize.{PlaneSize}
use Rattle.ffv1_samples.specs.Pictures.{IsFirstPlane, HasColor, color_coding, slice_plane_at, three_planes, HaveColors, AreRgbPlanes, IsFirstSample}
use Rattle.ffv1_samples.specs.Inner.Planes.{IsPlanesFault, first_outside}
use Rattle.ffv1_samples.specs.declared.colors.PlanesFault.TheVariants.{Outside}

-- what is coded of a colour has that colour
color_back : (c : CodingValue) (coded planes : ThreePlanes) → AreColorsOf c coded planes → (s : ℕ) → s < length coded.first
    → IsColor c (colors_of c (coded_at coded s))
color_back c coded planes h s less =
    subst (IsColor c) (sym (ap (colors_of c) (sym (h.coded_so s less)) ∙ colors_are_back.colors c (coded_at planes s))) (h.colors s less)

pub colors_of_planes : (r : RecordingValue) (coded planes : List (List ℕ)) → AreRgbPlanes r coded planes → HaveColors r coded
colors_of_planes r coded planes h s less =
    record { color = color_back (color_coding r) (three_planes coded) (three_planes planes) h.colors s less; alpha = h.alpha_fits s }

module _ (r : RecordingValue) (coded : List (List ℕ)) where
  -- colours are in all places, and a sample of alpha is the first outside
  pub alpha_first : (planes : ThreePlanes) (place : ℕ) → AreColorsOf (color_coding r) (three_planes coded) planes
      → length (slice_plane_at coded 3) ≤ length (slice_plane_at coded 0)
      → (place < length (slice_plane_at coded 3)) × (2 ^ r.depth ≤ slice_index (slice_plane_at coded 3) place)
      → ((s : ℕ) → s < place → slice_index (slice_plane_at coded 3) s < 2 ^ r.depth) → IsFirstSample r coded place 3
  alpha_first planes place h short found before = record {
    inside = omega (arith, found.0, short);
    before = λ s less. record {
      color = color_back (color_coding r) (three_planes coded) planes h s (omega (arith, less, found.0, short));
      alpha = before s less;
    };
    outside = inr (refl, color_back (color_coding r) (three_planes coded) planes h place (omega (arith, found.0, short)), found.1);
  }

  -- a colour's sample is outside, and maybe one of alpha
  pub first_is : (place plane : ℕ) (alpha : Option ℕ) → r.is_rgb ≡ true → IsFirstOutsideAt (color_coding r) (three_planes coded) place plane
      → IfSome alpha (λ x. (x < length (slice_plane_at coded 3)) × (2 ^ r.depth ≤ slice_index (slice_plane_at coded 3) x))
      → IfSome alpha (λ x. (s : ℕ) → s < x → slice_index (slice_plane_at coded 3) s < 2 ^ r.depth)
      → IfNone alpha ((s : ℕ) → slice_index (slice_plane_at coded 3) s < 2 ^ r.depth) → IsPlanesFault r coded (first_outside place plane alpha)
  first_is place plane None rgb h found before none =
      (rgb, record { inside = h.inside; before = λ s less. record { color = h.before s less; alpha = none s }; outside = inl h.outside })
  first_is place plane (Some x) rgb h found before none =
      elim (nat_lt x place) as (λ b. nat_lt x place ≡ b → IsPlanesFault r coded (if b then Outside x 3 else Outside place plane)) [
        | true ↦ λ e.
            let less : x < place = ltb-true x place e in (
              rgb,
              record {
                inside = omega (arith, less, h.inside);
                before = λ s below. record { color = h.before s (omega (arith, below, less)); alpha = before s below };
                outside = inr (refl, h.before x less, found.1);
              },
            )
        | false ↦ λ e.
            let past : place ≤ x = ltb-false x place e in (
              rgb,
              record {
                inside = h.inside;
                before = λ s below. record { color = h.before s below; alpha = before s (omega (arith, below, past)) };
                outside = inl h.outside;
              },
            )
      ] refl

-- ---- the same, of what the code has

pub coding_is : (r : RecordingValue) (c : CodingValue) (depth : ℕ) (has_alpha : Bool) → c ≡ record { depth = depth; is_swapped = are_swapped depth has_alpha }
    → depth ≡ r.depth → has_alpha ≡ r.has_alpha → c ≡ color_coding r
coding_is r c depth has_alpha is deep alpha =
    is ∙ ap (λ d. record { depth = d; is_swapped = are_swapped d has_alpha }) deep ∙ ap (λ a. record { depth = r.depth; is_swapped = are_swapped r.depth a }) alpha

-- a plane of a list of vectors
pub plane_of : (planes : List (Vec ℕ Global)) (p : ℕ) (plane : Vec ℕ Global) (samples : List ℕ) → p < length planes → plane ≡ get_or planes p plane
    → samples ≡ plane.items → samples ≡ slice_plane_at (map (λ plane. plane.items) planes) p
plane_of planes p plane samples less is at =
    at ∙ ap (λ plane. plane.items) is ∙ sym (get_or-map (λ plane. plane.items) planes p plane [] less)

pub three_are : (coded : List (List ℕ)) (x y z : List ℕ) → x ≡ slice_plane_at coded 0 → y ≡ slice_plane_at coded 1 → z ≡ slice_plane_at coded 2
    → record { first = x; second = y; third = z } ≡ three_planes coded
three_are coded x y z a b c =
    ap (λ l. record { first = l; second = y; third = z }) a
    ∙ ap (λ l. record { first = slice_plane_at coded 0; second = l; third = z }) b
    ∙ ap (λ l. record { first = slice_plane_at coded 0; second = slice_plane_at coded 1; third = l }) c

pub colors_at : (a b : CodingValue) (t u planes : ThreePlanes) → a ≡ b → t ≡ u → AreColorsOf a t planes → AreColorsOf b u planes
colors_at a b t u planes same at h = subst (λ v. AreColorsOf v u planes) same (subst (λ l. AreColorsOf a l planes) at h)

pub outside_at : (a b : CodingValue) (t u : ThreePlanes) (place plane : ℕ) → a ≡ b → t ≡ u → IsFirstOutsideAt a t place plane → IsFirstOutsideAt b u place plane
outside_at a b t u place plane same at h = subst (λ v. IsFirstOutsideAt v u place plane) same (subst (λ l. IsFirstOutsideAt a l place plane) at h)

module _ (depth n : ℕ) (alpha samples : List ℕ) (deep : depth ≡ n) (is : alpha ≡ samples) where
  pub found_at : (o : Option ℕ) → IfSome o (λ x. (x < length alpha) × (2 ^ depth ≤ slice_index alpha x))
      → IfSome o (λ x. (x < length samples) × (2 ^ n ≤ slice_index samples x))
  found_at o h =
      subst (λ k. IfSome o (λ x. (x < length samples) × (2 ^ k ≤ slice_index samples x))) deep
      (subst (λ l. IfSome o (λ x. (x < length l) × (2 ^ depth ≤ slice_index l x))) is h)

  pub before_at : (o : Option ℕ) → IfSome o (λ x. (s : ℕ) → s < x → slice_index alpha s < 2 ^ depth)
      → IfSome o (λ x. (s : ℕ) → s < x → slice_index samples s < 2 ^ n)
  before_at o h =
      subst (λ k. IfSome o (λ x. (s : ℕ) → s < x → slice_index samples s < 2 ^ k)) deep
      (subst (λ l. IfSome o (λ x. (s : ℕ) → s < x → slice_index l s < 2 ^ depth)) is h)

  pub none_at : (o : Option ℕ) → IfNone o ((s : ℕ) → slice_index alpha s < 2 ^ depth) → IfNone o ((s : ℕ) → slice_index samples s < 2 ^ n)
  none_at o h =
      subst (λ k. IfNone o ((s : ℕ) → slice_index samples s < 2 ^ k)) deep (subst (λ l. IfNone o ((s : ℕ) → slice_index l s < 2 ^ depth)) is h)

-- ---- one first sample

-- a place with a colour has no sample outside
outside_no_color : (r : RecordingValue) (coded : List (List ℕ)) (s plane : ℕ) → HasColor r coded s → IsFirstPlane r coded s plane → ⊥
outside_no_color r coded s plane here h = ⊎_elim
    (λ outside. ⊎_elim (λ a. a.1 here.color.first) (λ more. ⊎_elim (λ b. b.2 here.color.second) (λ c. c.3 here.color.third) more) outside)
    (λ alpha. let small = here.alpha in omega (arith, small, alpha.2)) h

-- where all places have colours, no sample is outside
pub no_first_sample : (r : RecordingValue) (coded : List (List ℕ)) (s plane : ℕ) → HaveColors r coded → IsFirstSample r coded s plane → ⊥
no_first_sample r coded s plane colors h = outside_no_color r coded s plane (colors s h.inside) h.outside

-- the first of four facts that doesn't hold
data FirstOf (a b c d : Type 0) (plane : ℕ) : Type 0 where
  at_first : plane ≡ 0 → (a → ⊥) → FirstOf a b c d plane
  at_second : plane ≡ 1 → a → (b → ⊥) → FirstOf a b c d plane
  at_third : plane ≡ 2 → a → b → (c → ⊥) → FirstOf a b c d plane
  at_alpha : plane ≡ 3 → a → b → c → (d → ⊥) → FirstOf a b c d plane

first_of_is_one : (a b c d : Type 0) (p q : ℕ) → FirstOf a b c d p → FirstOf a b c d q → p ≡ q
first_of_is_one a b c d p q (at_first x wrong) (at_first y false_there) = x ∙ sym y
first_of_is_one a b c d p q (at_first x wrong) (at_second y right false_there) = absurd (wrong right)
first_of_is_one a b c d p q (at_first x wrong) (at_third y right more false_there) = absurd (wrong right)
first_of_is_one a b c d p q (at_first x wrong) (at_alpha y right more most false_there) = absurd (wrong right)
first_of_is_one a b c d p q (at_second x right wrong) (at_first y false_there) = absurd (false_there right)
first_of_is_one a b c d p q (at_second x right wrong) (at_second y also false_there) = x ∙ sym y
first_of_is_one a b c d p q (at_second x right wrong) (at_third y also more false_there) = absurd (wrong more)
first_of_is_one a b c d p q (at_second x right wrong) (at_alpha y also more most false_there) = absurd (wrong more)
first_of_is_one a b c d p q (at_third x right too wrong) (at_first y false_there) = absurd (false_there right)
first_of_is_one a b c d p q (at_third x right too wrong) (at_second y also false_there) = absurd (false_there too)
first_of_is_one a b c d p q (at_third x right too wrong) (at_third y also more false_there) = x ∙ sym y
first_of_is_one a b c d p q (at_third x right too wrong) (at_alpha y also more most false_there) = absurd (wrong most)
first_of_is_one a b c d p q (at_alpha x right too all wrong) (at_first y false_there) = absurd (false_there right)
first_of_is_one a b c d p q (at_alpha x right too all wrong) (at_second y also false_there) = absurd (false_there too)
first_of_is_one a b c d p q (at_alpha x right too all wrong) (at_third y also more false_there) = absurd (false_there all)
first_of_is_one a b c d p q (at_alpha x right too all wrong) (at_alpha y also more most false_there) = x ∙ sym y

IsFirstOf : RecordingValue → List (List ℕ) → ℕ → ℕ → Type 0
IsFirstOf r coded s plane =
    let color = colors_of (color_coding r) (coded_at (three_planes coded) s) in
    FirstOf (IsOfBits r.depth color.first) (IsOfBits r.depth color.second) (IsOfBits r.depth color.third) (slice_index (slice_plane_at coded 3) s < 2 ^ r.depth) plane

is_first_of : (r : RecordingValue) (coded : List (List ℕ)) (s plane : ℕ) → IsFirstPlane r coded s plane → IsFirstOf r coded s plane
unfolding IsFirstOf
is_first_of r coded s plane h = ⊎_elim
    (λ outside. ⊎_elim (λ a. at_first a.0 a.1) (λ more. ⊎_elim (λ b. at_second b.0 b.1 b.2) (λ c. at_third c.0 c.1 c.2 c.3) more) outside)
    (λ alpha. at_alpha alpha.0 alpha.1.first alpha.1.second alpha.1.third (λ small. let many = alpha.2 in absurd (omega (arith, small, many)))) h

one_plane : (r : RecordingValue) (coded : List (List ℕ)) (s p q : ℕ) → IsFirstPlane r coded s p → IsFirstPlane r coded s q → p ≡ q
unfolding IsFirstOf
one_plane r coded s p q h k = first_of_is_one _ _ _ _ p q (is_first_of r coded s p h) (is_first_of r coded s q k)

-- one place is the first, and one plane there
pub one_first_sample : (r : RecordingValue) (coded : List (List ℕ)) (s u p q : ℕ) → IsFirstSample r coded s p → IsFirstSample r coded u q → (s ≡ u) × (p ≡ q)
one_first_sample r coded s u p q h k = elim (cases_order s u) [
  | inl same ↦ (same, one_plane r coded s p q h.outside (subst (λ n. IsFirstPlane r coded n q) (sym same) k.outside))
  | inr apart ↦ elim apart [
    | inl less ↦ absurd (outside_no_color r coded s p (k.before s less) h.outside)
    | inr more ↦ absurd (outside_no_color r coded u q (h.before u more) k.outside)
  ]
]

-- ---- the first rows of planes

module _ (r : RecordingValue) (sizes : List PlaneSize) (rows : ℕ) (planes firsts : List (List ℕ)) (alike : (p : ℕ) → p < length sizes → size_at sizes p ≡ size_at sizes 0)
    (some : 1 ≤ length sizes) (count : length planes ≡ length sizes) (are : AreFirstRows sizes rows planes firsts) where
  width : ℕ
  width = (size_at sizes 0).width

  first_plane : slice_plane_at firsts 0 ≡ take (rows * (size_at sizes 0).width) (slice_plane_at planes 0)
  first_plane = are.each 0 (omega (arith, some))

  short : (s : ℕ) → s < length (slice_plane_at firsts 0) → (s < rows * (size_at sizes 0).width) × (s < length (slice_plane_at planes 0))
  short s less =
      let long : length (slice_plane_at firsts 0) ≡ min (rows * (size_at sizes 0).width) (length (slice_plane_at planes 0)) =
      ap length first_plane ∙ length-take (rows * (size_at sizes 0).width) (slice_plane_at planes 0) in
      (omega (arith, less, long), omega (arith, less, long))

  sample_same : (s : ℕ) → s < rows * (size_at sizes 0).width → (p : ℕ) → slice_index (slice_plane_at firsts p) s ≡ slice_index (slice_plane_at planes p) s
  sample_same s less p = ⊎_elim
      (λ inside.
      let wide : (size_at sizes p).width ≡ (size_at sizes 0).width = ap (λ (size : PlaneSize). size.width) (alike p inside) in
      ap (λ l. slice_index l s) (are.each p inside ∙ ap (λ w. take (rows * w) (slice_plane_at planes p)) wide)
      ∙ get_or-take (rows * (size_at sizes 0).width) (slice_plane_at planes p) s 0 less)
      (λ past.
      ap (λ l. slice_index l s) (get_or_past firsts p [] (omega (arith, past, are.count)) ∙ sym (get_or_past planes p [] (omega (arith, past, count)))))
      (cases_lt p (length sizes))

  color_same : (s : ℕ) → s < rows * (size_at sizes 0).width → coded_at (three_planes firsts) s ≡ coded_at (three_planes planes) s
  color_same s less =
      ap (λ x. record { first = pos x; second = pos (slice_index (slice_plane_at firsts 1) s); third = pos (slice_index (slice_plane_at firsts 2) s) }) (sample_same s less 0)
      ∙ ap (λ x. record { first = pos (slice_index (slice_plane_at planes 0) s); second = pos x; third = pos (slice_index (slice_plane_at firsts 2) s) }) (sample_same s less 1)
      ∙ ap (λ x. record { first = pos (slice_index (slice_plane_at planes 0) s); second = pos (slice_index (slice_plane_at planes 1) s); third = pos x }) (sample_same s less 2)

  -- what is said of a place says the same of both
  moved : (P : ThreeSamples → ℕ → Type 0) (s : ℕ) → s < rows * (size_at sizes 0).width
      → P (coded_at (three_planes firsts) s) (slice_index (slice_plane_at firsts 3) s) → P (coded_at (three_planes planes) s) (slice_index (slice_plane_at planes 3) s)
  moved P s less h =
      subst (λ n. P (coded_at (three_planes planes) s) n) (sample_same s less 3)
      (subst (λ (c : ThreeSamples). P c (slice_index (slice_plane_at firsts 3) s)) (color_same s less) h)

  -- the first sample outside is so in all rows
  pub first_sample_on : (s plane : ℕ) → IsFirstSample r firsts s plane → IsFirstSample r planes s plane
  first_sample_on s plane h =
      let here = short s h.inside in
      let c = color_coding r in
      record {
        inside = here.1;
        before = λ k less.
            let was = h.before k less in
            let now =
            moved (λ x alpha. IsColor (color_coding r) (colors_of (color_coding r) x) × (alpha < 2 ^ r.depth)) k (omega (arith, less, here.0)) (was.color, was.alpha) in
            record { color = now.0; alpha = now.1 };
        outside =
            moved (λ x alpha. IsFirstOutside (color_coding r) (colors_of (color_coding r) x) plane
            ⊎ ((plane ≡ 3) × IsColor (color_coding r) (colors_of (color_coding r) x) × (2 ^ r.depth ≤ alpha))) s here.0 h.outside;
      }
