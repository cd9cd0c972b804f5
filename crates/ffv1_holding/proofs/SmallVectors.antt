-- A frame of two small slices and copies of it, where the first byte of a content is its tile: what is found in them, and what is restored.
use Rattle.std.proofs.Common.{◌≡◌, ℕ, zero, suc, ◌<◌, Bool, true, false, List, [], ◌∷◌, ◌++◌, length, get_or, Some, None, Contains, refl, sym, ap, ◌∙◌, subst, inl, inr, arith}
use Rattle.std.specs.Prelude.{◌⊎◌, ◌==◌}
use Rattle.std.proofs.lemmas.List.{append-nil, get_or_default}
use Rattle.ffv1_bits.specs.Bits.{number_bits, bits_of}
use Rattle.ffv1_bits.specs.Parity.{polynomial_of, divided, remainder_of, PassesParity}
use Rattle.ffv1_range.specs.Coding.{bit_at, slot_at, start_of}
use Rattle.ffv1_range.specs.Transitions.{standard_transitions, one_states_with, zero_states_of, default_states}
use Rattle.ffv1_range.specs.HeaderForms.{symbols_onto}
use Rattle.ffv1_range.specs.Reading.{symbol_form, exponent_form, low_form}
use Rattle.ffv1_slice.proofs.NearVectors as near
use Rattle.ffv1_holding.specs.Small.{TileOf, footer, slice_size, content, error_status, FitsFooter, IsLink, IsTileSlice, IsFound, IsSettledBy, IsRestoredFrom, IsOriginalPayload, AreCopies}
use Rattle.ffv1_holding.specs.Small.IsLink.{last, earlier}
use Rattle.ffv1_holding.specs.SmallNotions.{tile_by}
use Rattle.ffv1_holding.proofs.SmallOriginals.{joined_to, link_among}

abbrev tile_of : TileOf
tile_of [] first = None
tile_of (tile ∷ samples) first = Some tile

abbrev first_slice : List ℕ
first_slice = 0 ∷ 7 ∷ 0 ∷ 0 ∷ 2 ∷ 0 ∷ 0x5B ∷ 0x11 ∷ 0xB5 ∷ 0x1B ∷ []

abbrev second_slice : List ℕ
second_slice = 1 ∷ 9 ∷ 0 ∷ 0 ∷ 2 ∷ 0 ∷ 0xB3 ∷ 0x3E ∷ 0xF3 ∷ 0xFC ∷ []

abbrev slices : List (List ℕ)
slices = first_slice ∷ second_slice ∷ []

abbrev frame : List ℕ
frame = first_slice ++ second_slice

-- one bit of a content is flipped
abbrev damaged_first : List ℕ
damaged_first = 0 ∷ 6 ∷ 0 ∷ 0 ∷ 2 ∷ 0 ∷ 0x5B ∷ 0x11 ∷ 0xB5 ∷ 0x1B ∷ []

abbrev damaged_second : List ℕ
damaged_second = 1 ∷ 8 ∷ 0 ∷ 0 ∷ 2 ∷ 0 ∷ 0xB3 ∷ 0x3E ∷ 0xF3 ∷ 0xFC ∷ []

-- other slices of tile 1 that pass: with error_status 0, and with 1
abbrev other_second : List ℕ
other_second = 1 ∷ 8 ∷ 0 ∷ 0 ∷ 2 ∷ 0 ∷ 0xFA ∷ 0x33 ∷ 0x94 ∷ 0x71 ∷ []

abbrev marked_second : List ℕ
marked_second = 1 ∷ 8 ∷ 0 ∷ 0 ∷ 2 ∷ 1 ∷ 0xFE ∷ 0xF2 ∷ 0x89 ∷ 0xC6 ∷ []

-- ---- one slice

parts_of_a_slice : (footer second_slice ≡ 0 ∷ 0 ∷ 2 ∷ 0 ∷ 0xB3 ∷ 0x3E ∷ 0xF3 ∷ 0xFC ∷ []) × (content second_slice ≡ 1 ∷ 9 ∷ [])
parts_of_a_slice = (refl, refl)

fields_of_a_footer : (slice_size (9 ∷ 1 ∷ 2 ∷ 3 ∷ 4 ∷ 5 ∷ 6 ∷ 7 ∷ 8 ∷ []) ≡ 0x010203) × (error_status (9 ∷ 1 ∷ 2 ∷ 3 ∷ 4 ∷ 5 ∷ 6 ∷ 7 ∷ 8 ∷ []) ≡ 4)
fields_of_a_footer = (refl, refl)

first_fits : FitsFooter first_slice
first_fits = record { footed = omega arith; size = refl }

second_fits : FitsFooter second_slice
second_fits = record { footed = omega arith; size = refl }

damaged_first_fits : FitsFooter damaged_first
damaged_first_fits = record { footed = omega arith; size = refl }

damaged_second_fits : FitsFooter damaged_second
damaged_second_fits = record { footed = omega arith; size = refl }

other_fits : FitsFooter other_second
other_fits = record { footed = omega arith; size = refl }

marked_fits : FitsFooter marked_second
marked_fits = record { footed = omega arith; size = refl }

-- a byte more does not fit
longer_does_not_fit : FitsFooter (5 ∷ second_slice) → ⊥
longer_does_not_fit fits = absurd (omega (arith, fits.size))

first_is_a_slice : IsTileSlice tile_of first_slice true 0
unfolding number_bits bits_of polynomial_of divided remainder_of
first_is_a_slice = record { framed = first_fits; passes = (omega arith, refl); of_tile = refl }

second_is_a_slice : IsTileSlice tile_of second_slice false 1
unfolding number_bits bits_of polynomial_of divided remainder_of
second_is_a_slice = record { framed = second_fits; passes = (omega arith, refl); of_tile = refl }

other_is_a_slice : IsTileSlice tile_of other_second false 1
unfolding number_bits bits_of polynomial_of divided remainder_of
other_is_a_slice = record { framed = other_fits; passes = (omega arith, refl); of_tile = refl }

marked_is_a_slice : IsTileSlice tile_of marked_second false 1
unfolding number_bits bits_of polynomial_of divided remainder_of
marked_is_a_slice = record { framed = marked_fits; passes = (omega arith, refl); of_tile = refl }

damaged_first_fails : PassesParity damaged_first → ⊥
unfolding number_bits bits_of polynomial_of divided remainder_of
damaged_first_fails passes = let wrong = passes.1 in absurd (cc)

damaged_second_fails : PassesParity damaged_second → ⊥
unfolding number_bits bits_of polynomial_of divided remainder_of
damaged_second_fails passes = let wrong = passes.1 in absurd (cc)

-- ---- links

first_link : IsLink [] first_slice frame
first_link = earlier (last first_fits) second_fits

second_link : IsLink first_slice second_slice frame
second_link = last second_fits

original : IsOriginalPayload tile_of 2 frame slices
original = record { count = refl; joined = refl; each = each }
  where
    each : (tile : ℕ) (d : List ℕ) → tile < 2 → IsTileSlice tile_of (get_or slices tile d) (tile == 0) tile
    each zero d lt = first_is_a_slice
    each (suc zero) d lt = second_is_a_slice
    each (suc (suc tile)) d lt = absurd (omega arith)

-- the links of two parts that fit their footers are these parts
one_of_two : (a b before slice : List ℕ) → FitsFooter a → FitsFooter b → IsLink before slice (a ++ b) → (slice ≡ a) ⊎ (slice ≡ b)
one_of_two a b before slice a_fits b_fits link =
    part (link_among (a ∷ b ∷ []) framed before slice (a ++ b) link 2 (omega arith) (ap (λ z. a ++ z) (sym (append-nil b))))
  where
    framed : (k : ℕ) (d : List ℕ) → k < 2 → FitsFooter (get_or (a ∷ b ∷ []) k d)
    framed zero d lt = a_fits
    framed (suc zero) d lt = b_fits
    framed (suc (suc k)) d lt = absurd (omega arith)

    part : (k : ℕ) × (k < 2) × (before ≡ joined_to (a ∷ b ∷ []) k) × (slice ≡ get_or (a ∷ b ∷ []) k []) → (slice ≡ a) ⊎ (slice ≡ b)
    part (zero, lt, there, is) = inl is
    part (suc zero, lt, there, is) = inr is
    part (suc (suc k), lt, there, is) = absurd (omega arith)

module _ (a b c d : List ℕ) (a_fits : FitsFooter a) (b_fits : FitsFooter b) (c_fits : FitsFooter c) (d_fits : FitsFooter d) where
  -- what is found in two copies of two such parts each is one of the parts
  one_of_four : (tile : ℕ) (slice : List ℕ) → IsFound tile_of ((a ++ b) ∷ (c ++ d) ∷ []) tile slice
      → ((slice ≡ a) ⊎ (slice ≡ b)) ⊎ ((slice ≡ c) ⊎ (slice ≡ d))
  one_of_four tile slice found = from found.copy found.among found.link
    where
      from : (copy : List ℕ) → Contains ((a ++ b) ∷ (c ++ d) ∷ []) copy → IsLink found.before slice copy
          → ((slice ≡ a) ⊎ (slice ≡ b)) ⊎ ((slice ≡ c) ⊎ (slice ≡ d))
      from copy (zero, lt, is) link = inl (one_of_two a b found.before slice a_fits b_fits (subst (IsLink found.before slice) (sym is) link))
      from copy (suc zero, lt, is) link = inr (one_of_two c d found.before slice c_fits d_fits (subst (IsLink found.before slice) (sym is) link))
      from copy (suc (suc k), lt, is) link = absurd (omega arith)

-- ---- two copies, each with another slice damaged

abbrev copies : List (List ℕ)
copies = (first_slice ++ damaged_second) ∷ (damaged_first ++ second_slice) ∷ []

first_found : IsFound tile_of copies 0 first_slice
first_found = record {
  copy = first_slice ++ damaged_second;
  among = (0, omega arith, refl);
  before = [];
  link = earlier (last first_fits) damaged_second_fits;
  is_slice = first_is_a_slice;
}

second_found : IsFound tile_of copies 1 second_slice
second_found = record {
  copy = damaged_first ++ second_slice;
  among = (1, omega arith, refl);
  before = damaged_first;
  link = last second_fits;
  is_slice = second_is_a_slice;
}

-- the tile that a slice's content names
named : (slice other : List ℕ) (first : Bool) (tile : ℕ) → slice ≡ other → IsTileSlice tile_of slice first tile
    → tile_of (content other) first ≡ Some tile
named slice other first tile same is = ap (λ s. tile_of (content s) first) (sym same) ∙ is.of_tile

one_tile : (tile other : ℕ) → Some tile ≡ Some other → tile ≡ other
one_tile tile other same = cc

only : (tile : ℕ) (slice : List ℕ) → IsFound tile_of copies tile slice → (tile < 2) × (slice ≡ get_or slices tile slice)
only tile slice found =
    elim (one_of_four first_slice damaged_second damaged_first second_slice first_fits damaged_second_fits damaged_first_fits second_fits
    tile slice found) [
      | inl one ↦ elim one [
        | inl same ↦
            let at = one_tile 0 tile (named slice first_slice (length found.before == 0) tile same found.is_slice) in
            subst (λ t. (t < 2) × (slice ≡ get_or slices t slice)) at (omega arith, same)
        | inr same ↦ absurd (damaged_second_fails (subst PassesParity same found.is_slice.passes))
      ]
      | inr one ↦ elim one [
        | inl same ↦ absurd (damaged_first_fails (subst PassesParity same found.is_slice.passes))
        | inr same ↦
            let at = one_tile 1 tile (named slice second_slice (length found.before == 0) tile same found.is_slice) in
            subst (λ t. (t < 2) × (slice ≡ get_or slices t slice)) at (omega arith, same)
      ]
    ]

are_copies : AreCopies tile_of slices copies
are_copies = record { only = only; all = all }
  where
    all : (tile : ℕ) (d : List ℕ) → tile < 2 → IsFound tile_of copies tile (get_or slices tile d)
    all zero d lt = first_found
    all (suc zero) d lt = second_found
    all (suc (suc tile)) d lt = absurd (omega arith)

first_settled : IsSettledBy tile_of copies 0 first_slice
first_settled = record { found = first_found; best = λ other found. inl (only 0 other found).1 }

second_settled : IsSettledBy tile_of copies 1 second_slice
second_settled = record { found = second_found; best = λ other found. inl (only 1 other found).1 }

restored : IsRestoredFrom tile_of 2 copies frame
restored = record { slices = slices; count = refl; joined = refl; each = each }
  where
    each : (tile : ℕ) (d : List ℕ) → tile < 2 → IsSettledBy tile_of copies tile (get_or slices tile d)
    each zero d lt = first_settled
    each (suc zero) d lt = second_settled
    each (suc (suc tile)) d lt = absurd (omega arith)

-- ---- two slices of one tile

found_of : (second other : List ℕ) → FitsFooter second → IsTileSlice tile_of second false 1
    → (k : ℕ) → k < 2 → get_or ((first_slice ++ second_slice) ∷ (first_slice ++ other) ∷ []) k [] ≡ first_slice ++ second
    → IsFound tile_of ((first_slice ++ second_slice) ∷ (first_slice ++ other) ∷ []) 1 second
found_of second other fits is k lt at = record {
  copy = first_slice ++ second;
  among = (k, omega arith, sym (get_or_default ((first_slice ++ second_slice) ∷ (first_slice ++ other) ∷ []) k [] (first_slice ++ second) lt) ∙ at);
  before = first_slice;
  link = last fits;
  is_slice = is;
}

-- the lesser error_status settles it
lesser_settles : IsSettledBy tile_of (frame ∷ (first_slice ++ marked_second) ∷ []) 1 second_slice
lesser_settles = record { found = found_of second_slice marked_second second_fits second_is_a_slice 0 (omega arith) refl; best = best }
  where
    best : (other : List ℕ) → IsFound tile_of (frame ∷ (first_slice ++ marked_second) ∷ []) 1 other
        → (other ≡ second_slice) ⊎ (error_status second_slice < error_status other)
    best other found =
        elim (one_of_four first_slice second_slice first_slice marked_second first_fits second_fits first_fits marked_fits 1 other found) [
          | inl one ↦ elim one [ inl same ↦ absurd (never other found same) | inr same ↦ inl same ]
          | inr one ↦ elim one [
            | inl same ↦ absurd (never other found same)
            | inr same ↦ inr (subst (λ z. 0 < error_status z) (sym same) (omega arith))
          ]
        ]
      where
        never : (other : List ℕ) → IsFound tile_of (frame ∷ (first_slice ++ marked_second) ∷ []) 1 other → other ≡ first_slice → ⊥
        never other found same =
            absurd (omega (arith, one_tile 0 1 (named other first_slice (length found.before == 0) 1 same found.is_slice)))

-- equal ones settle nothing
equal_ones_dispute : (slice : List ℕ) → IsSettledBy tile_of (frame ∷ (first_slice ++ other_second) ∷ []) 1 slice → ⊥
equal_ones_dispute slice is =
    elim (is.best second_slice (found_of second_slice other_second second_fits second_is_a_slice 0 (omega arith) refl)) [
      | inr above ↦ absurd (omega (arith, above))
      | inl here ↦ elim (is.best other_second (found_of other_second other_second other_fits other_is_a_slice 1 (omega arith) refl)) [
        | inr above ↦ absurd (omega (arith, above))
        | inl there ↦ absurd (omega (arith, ap (λ (s : List ℕ). get_or s 1 0) (here ∙ sym there)))
      ]
    ]

-- ---- by the rules of a recording

-- the contents of a frame of two tiles side by side, and one that names tile 1 where a payload begins
tiles_by_rules : (tile_by near.rules (content near.first_slice) true ≡ Some 0) × (tile_by near.rules (content near.second_slice) false ≡ Some 1)
    × (tile_by near.rules (content near.second_slice) true ≡ None)
unfolding tile_by start_of bit_at slot_at symbol_form exponent_form low_form symbols_onto standard_transitions one_states_with zero_states_of default_states
tiles_by_rules = (refl, refl, refl)
