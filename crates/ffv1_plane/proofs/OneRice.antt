-- No bits begin with two lists of planes, and where they are stuck, they are so at one place.
use Rattle.std.proofs.Common.{◌≡◌, ℕ, ◌*◌, ◌^◌, ◌<◌, ◌≤◌, Bool, true, false, max, List, [], ◌∷◌, length, get_or, refl, sym, ap, ◌∙◌, subst, arith, ℤ, inl, inr}
use Rattle.std.specs.Prelude.{slice_index, slice_index_or, nat_lt, if◌then◌else◌}
use Rattle.std.specs.List.{All}
use Rattle.std.proofs.lemmas.Bool.{cases_lt}
use Rattle.std.proofs.lemmas.List.{ext_get_or}
use Rattle.std.proofs.lemmas.Nat.{pow_pos}
use Rattle.std.proofs.Math.Nat.{mul_comm}
use Rattle.ffv1_range.specs.Setup.{RecordingValue, IsInVersion3, set_entry}
use Rattle.ffv1_rice.specs.States.{IsCodedDepth}
use Rattle.ffv1_rice.specs.declared.code.CodeFault.{CodeFault}
use Rattle.ffv1_plane.specs.Samples.{Plane, Coding, plane_of, coding_at}
use Rattle.ffv1_plane.specs.Spelling.{residuals_of}
use Rattle.ffv1_plane.specs.Stuck.{IsWordRefused}
use Rattle.ffv1_plane.specs.StuckLaws.{IsOnePlace}
use Rattle.ffv1_plane.specs.Lines.{Line, line_at, first_index, values_after_lines, LinesSpell}
use Rattle.ffv1_plane.specs.RangeSlices.{slice_shape, lines_of, size_at, height_at, no_size, coded_depth_of, group_at, slice_plane}
use Rattle.ffv1_plane.specs.RangeReading.{IsPlaneSize}
use Rattle.ffv1_plane.specs.RangeLaws.{HaveEqualRows}
use Rattle.ffv1_plane.specs.RiceSlices.{is_anew_at, slice_planes, ArePlanesSpelled, AreCodesStuck}
use Rattle.ffv1_plane.specs.RiceReading.{AreCodesDecoded, IsCodesFaultOf, AreSpelledAt}
use Rattle.ffv1_plane.specs.RiceLaws.{OneCodesReading, StuckCodesSpellNothing, StuckCodesAreOne}
use Rattle.ffv1_plane.specs.declared.planes.PlaneSize.{PlaneSize}
use Rattle.ffv1_plane.specs.declared.rice_planes.RiceLines.{RiceLines}
use Rattle.ffv1_plane.specs.declared.rice_planes.CodesFault.{CodesFault}
use Rattle.ffv1_plane.specs.declared.rice_planes.CodesFault.TheVariants as codes_faults
use Rattle.ffv1_plane.proofs.CodedLines.{none_known}
use Rattle.ffv1_plane.proofs.OneLines.{AreLinesStuck, coded, AreKnownSame, one_lines, stuck_excludes, stuck_one}
use Rattle.ffv1_plane.proofs.OneRange.{lines_order, lines_known, coded_depth_deep}
use Rattle.ffv1_plane.proofs.RangeSlices.{AreBelow, orders_below, below_front, below_middle}
use Rattle.ffv1_plane.proofs.RiceSlices.{leaves_as, spells_as}

-- ---- planes of a slice, which are empty past its count

width_in : List PlaneSize → ℕ → ℕ
width_in sizes p = max 1 (size_at sizes p).width

samples_in : List PlaneSize → List (List ℕ) → ℕ → List ℕ
samples_in sizes planes p = if nat_lt p (length sizes) then slice_index_or planes p [] else []

some_width : (sizes : List PlaneSize) (p : ℕ) → 1 ≤ width_in sizes p
unfolding width_in
some_width sizes p = omega arith

width_is : (sizes : List PlaneSize) (p : ℕ) → All IsPlaneSize sizes → p < length sizes → (size_at sizes p).width ≡ width_in sizes p
unfolding width_in
width_is sizes p fit less = let some = (fit p no_size less).0 in omega (arith, some)

samples_are : (sizes : List PlaneSize) (planes : List (List ℕ)) (p : ℕ) → p < length sizes → slice_index_or planes p [] ≡ samples_in sizes planes p
unfolding samples_in
samples_are sizes planes p less =
    let yes : nat_lt p (length sizes) ≡ true = grind (arith, less) in ap (λ b. if b then slice_index_or planes p [] else []) (sym yes)

samples_small : (n : ℕ) (sizes : List PlaneSize) (planes : List (List ℕ))
    → ((p : ℕ) → p < length sizes → (s : ℕ) → get_or (slice_index_or planes p []) s 0 < 2 ^ n) → (p s : ℕ) → get_or (samples_in sizes planes p) s 0 < 2 ^ n
unfolding samples_in
samples_small n sizes planes small p s = elim (cases_lt p (length sizes)) [
  | inl less ↦ subst (λ l. get_or l s 0 < 2 ^ n) (samples_are sizes planes p less) (small p less s)
  | inr past ↦
      let no : nat_lt p (length sizes) ≡ false = grind (arith, past) in
      subst (λ b. get_or (if b then slice_index_or planes p [] else []) s 0 < 2 ^ n) (sym no) (pow_pos n)
]

module _ (r : RecordingValue) (sets : List ℕ) (sizes : List PlaneSize) (version : IsInVersion3 r) (fit : All IsPlaneSize sizes) where
  abbrev coding_in : ℕ → Coding
  coding_in p = coding_at (coded_depth_of r) (set_entry r.setup (slice_index sets (group_at (slice_shape r sets sizes) p)))

  deep : (p : ℕ) → IsCodedDepth (coding_in p).depth
  deep p = coded_depth_deep r version

  -- the planes of a slice as those of the laws of lines
  alike : (planes : List (List ℕ)) (p : ℕ) → p < length sizes
      → (slice_plane (slice_shape r sets sizes) planes p).plane ≡ plane_of (width_in sizes p) (coding_in p) (samples_in sizes planes p)
  alike planes p less =
      ap (λ w. plane_of w (coding_in p) (slice_index_or planes p [])) (width_is sizes p fit less)
      ∙ ap (plane_of (width_in sizes p) (coding_in p)) (samples_are sizes planes p less)

  abbrev groups : ℕ → ℕ
  groups = group_at (slice_shape r sets sizes)

  abbrev anew : Line → Bool
  anew = is_anew_at r.is_rgb

  -- .. their bits and the values that they leave
  as_lines : (planes : List (List ℕ)) (values : ℕ → ℕ → List ℤ) (index : ℕ) (lines : List Line) (bits : List Bool) (next : ℕ) → AreBelow (length sizes) lines
      → LinesSpell (slice_planes (slice_shape r sets sizes) planes) values index lines bits next
      → LinesSpell (coded groups anew (width_in sizes) coding_in (samples_in sizes planes)) values index lines bits next
  as_lines planes values index lines bits next below h =
      spells_as (λ p. (slice_plane (slice_shape r sets sizes) planes p).plane) (λ p. plane_of (width_in sizes p) (coding_in p) (samples_in sizes planes p)) groups groups
      anew (length sizes) values index lines bits next (alike planes) refl below h

  left_as : (planes : List (List ℕ)) (values : ℕ → ℕ → List ℤ) (lines : List Line) → AreBelow (length sizes) lines
      → values_after_lines (slice_planes (slice_shape r sets sizes) planes) values lines
      ≡ values_after_lines (coded groups anew (width_in sizes) coding_in (samples_in sizes planes)) values lines
  left_as planes values lines below =
      leaves_as (λ p. (slice_plane (slice_shape r sets sizes) planes p).plane) (λ p. plane_of (width_in sizes p) (coding_in p) (samples_in sizes planes p)) groups groups
      anew (length sizes) values lines (alike planes) refl below

  -- .. and where they are stuck
  stuck_inside : (values : ℕ → ℕ → List ℤ) (bits : List Bool) (fault : CodeFault) (plane row x : ℕ)
      → AreCodesStuck (slice_shape r sets sizes) values bits fault plane row x → x < width_in sizes plane
  stuck_inside values bits fault plane row x s =
      let below = subst (AreBelow (length sizes)) s.order (orders_below r.is_rgb sizes) in
      subst (λ w. x < w) (width_is sizes plane fit (below_middle (length sizes) s.done s.later (line_at plane row) below)) s.inside

  as_stuck : (values : ℕ → ℕ → List ℤ) (bits : List Bool) (fault : CodeFault) (plane row x : ℕ)
      (s : AreCodesStuck (slice_shape r sets sizes) values bits fault plane row x)
      → AreLinesStuck (coded groups anew (width_in sizes) coding_in (samples_in sizes s.planes)) values 0 (lines_of r.is_rgb sizes) bits fault plane row x
  as_stuck values bits fault plane row x s =
      let below = subst (AreBelow (length sizes)) s.order (orders_below r.is_rgb sizes) in
      let plane_inside : plane < length sizes = below_middle (length sizes) s.done s.later (line_at plane row) below in
      let front = below_front (length sizes) s.done (line_at plane row ∷ s.later) below in
      let c = coded groups anew (width_in sizes) coding_in (samples_in sizes s.planes) in
      let first : ℕ = first_index c s.index (line_at plane row) in
      record {
        before = s.done;
        later = s.later;
        lines_are = s.order;
        whole = s.whole;
        between = s.index;
        spells = as_lines s.planes values 0 s.done s.whole s.index front s.spells;
        part = s.part;
        others = s.others;
        begins = s.begins;
        refused =
            subst (λ (v : ℕ → ℕ → List ℤ). IsWordRefused (v (groups plane)) (residuals_of (c.plane plane) row) first x s.part s.others fault)
            (left_as s.planes values s.done front)
            (subst (λ (z : Plane). IsWordRefused (values_after_lines (slice_planes (slice_shape r sets sizes) s.planes) values s.done (groups plane)) (residuals_of z row)
            first x s.part s.others fault) (alike s.planes plane plane_inside) s.refused);
      }

  small_in : (planes : List (List ℕ)) → ((p : ℕ) → p < length sizes → (s : ℕ) → get_or (slice_index_or planes p []) s 0 < 2 ^ coded_depth_of r)
      → (p s : ℕ) → get_or (samples_in sizes planes p) s 0 < 2 ^ (coding_in p).depth
  small_in planes small = samples_small (coded_depth_of r) sizes planes small

  -- the samples of the first rows, where the bits are the same
  same_samples : (planes others : List (List ℕ)) (values : ℕ → ℕ → List ℤ) (bits rest tail : List Bool) → HaveEqualRows r sizes
      → (h : ArePlanesSpelled (slice_shape r sets sizes) values bits planes rest) → (k : ArePlanesSpelled (slice_shape r sets sizes) values bits others tail)
      → ((p : ℕ) → p < length sizes → (j : ℕ) → j < height_at sizes p * width_in sizes p → get_or (samples_in sizes planes p) j 0 ≡ get_or (samples_in sizes others p) j 0)
      × (rest ≡ tail)
  unfolding AreKnownSame
  same_samples planes others values bits rest tail equal h k =
      let lines : List Line = lines_of r.is_rgb sizes in
      let below = orders_below r.is_rgb sizes in
      let one =
      one_lines groups anew (width_in sizes) coding_in (samples_in sizes planes) (samples_in sizes others) (some_width sizes) deep
      (small_in planes (λ p less. (h.sizes.each p less).small)) (small_in others (λ p less. (k.sizes.each p less).small)) none_known values 0 lines
      h.words k.words rest tail h.last k.last (lines_order r.is_rgb sizes) (λ p j less. absurd (omega arith))
      (as_lines planes values 0 lines h.words h.last below h.spells) (as_lines others values 0 lines k.words k.last below k.spells) (sym h.begins ∙ k.begins) in (
        λ p less j inside. one.samples p j
            (subst (λ n. j < n * width_in sizes p) (sym (lines_known r.is_rgb sizes p less (λ is. equal is p less))) inside),
        one.later,
      )

  excludes : (planes : List (List ℕ)) (values : ℕ → ℕ → List ℤ) (bits rest : List Bool) (fault : CodeFault) (plane row x : ℕ)
      → AreCodesStuck (slice_shape r sets sizes) values bits fault plane row x → ArePlanesSpelled (slice_shape r sets sizes) values bits planes rest → ⊥
  unfolding AreKnownSame
  excludes planes values bits rest fault plane row x s h =
      stuck_excludes groups anew (width_in sizes) coding_in (samples_in sizes s.planes) (samples_in sizes planes) (some_width sizes) deep
      (small_in s.planes s.small) (small_in planes (λ p less. (h.sizes.each p less).small)) none_known values 0 (lines_of r.is_rgb sizes) bits h.words rest h.last fault
      plane row x (stuck_inside values bits fault plane row x s) (lines_order r.is_rgb sizes) (λ p j less. absurd (omega arith))
      (as_stuck values bits fault plane row x s)
      (as_lines planes values 0 (lines_of r.is_rgb sizes) h.words h.last (orders_below r.is_rgb sizes) h.spells) h.begins

  one_place : (values : ℕ → ℕ → List ℤ) (bits : List Bool) (fault other : CodeFault) (plane level row v x u : ℕ)
      → AreCodesStuck (slice_shape r sets sizes) values bits fault plane row x → AreCodesStuck (slice_shape r sets sizes) values bits other level v u
      → IsOnePlace fault other plane level row v x u
  unfolding AreKnownSame
  one_place values bits fault other plane level row v x u s t =
      stuck_one groups anew (width_in sizes) coding_in (samples_in sizes s.planes) (samples_in sizes t.planes) (some_width sizes) deep
      (small_in s.planes s.small) (small_in t.planes t.small) none_known values 0 (lines_of r.is_rgb sizes) bits fault other plane level row v x u
      (stuck_inside values bits fault plane row x s) (stuck_inside values bits other level v u t) (lines_order r.is_rgb sizes) (λ p j less. absurd (omega arith))
      (as_stuck values bits fault plane row x s) (as_stuck values bits other level v u t)

-- ---- the laws

pub one_codes_reading : OneCodesReading
one_codes_reading r sets sizes values bits rest tail planes others version fit equal h k =
    let same = same_samples r sets sizes version fit planes others values bits rest tail equal h k in
    let counts : length planes ≡ length others = h.sizes.count ∙ sym k.sizes.count in (
      ext_get_or [] planes others counts (λ p less.
          let inside : p < length sizes = omega (arith, less, h.sizes.count) in
          let size = h.sizes.each p inside in
          ext_get_or 0 (slice_index_or planes p []) (slice_index_or others p []) (size.count ∙ sym (k.sizes.each p inside).count) (λ j below.
          ap (λ l. get_or l j 0) (samples_are sizes planes p inside)
          ∙ same.0 p inside j
          (let order : (size_at sizes p).width * height_at sizes p ≡ height_at sizes p * (size_at sizes p).width = mul_comm (size_at sizes p).width (height_at sizes p) in
          subst (λ w. j < height_at sizes p * w) (width_is sizes p fit inside) (omega (arith, below, size.count, order)))
          ∙ ap (λ l. get_or l j 0) (sym (samples_are sizes others p inside)))),
      same.1,
    )

pub stuck_codes_spell_nothing : StuckCodesSpellNothing
stuck_codes_spell_nothing r sets sizes values bits rest fault plane row x planes version fit s h =
    excludes r sets sizes version fit planes values bits rest fault plane row x s h

pub stuck_codes_are_one : StuckCodesAreOne
stuck_codes_are_one r sets sizes values bits fault other plane level row v x u version fit s t =
    one_place r sets sizes version fit values bits fault other plane level row v x u s t

-- ---- a reader finds the planes with which its bits begin

pub found_is_decoded : (r : RecordingValue) (sets : List ℕ) (sizes : List PlaneSize) (reader after : RiceLines) (planes others : List (List ℕ)) → IsInVersion3 r
    → All IsPlaneSize sizes → HaveEqualRows r sizes → AreCodesDecoded (slice_shape r sets sizes) reader after others
    → AreSpelledAt (slice_shape r sets sizes) reader planes → others ≡ planes
found_is_decoded r sets sizes reader after planes others version fit equal h k =
    (one_codes_reading r sets sizes k.values reader.bits.left after.bits.left k.rest others planes version fit equal (h.spelled k.values k.have_left) k.spelled).0

pub found_not_stuck : (r : RecordingValue) (sets : List ℕ) (sizes : List PlaneSize) (reader : RiceLines) (planes : List (List ℕ)) (fault : CodesFault) → IsInVersion3 r
    → All IsPlaneSize sizes → IsCodesFaultOf (slice_shape r sets sizes) reader fault → AreSpelledAt (slice_shape r sets sizes) reader planes
    → fault ≡ codes_faults.Memory
found_not_stuck r sets sizes reader planes (codes_faults.Sample fault plane y x) version fit h k =
    absurd (stuck_codes_spell_nothing r sets sizes k.values reader.bits.left k.rest fault plane y x planes version fit (h k.values k.have_left) k.spelled)
found_not_stuck r sets sizes reader planes codes_faults.Memory version fit h k = refl
