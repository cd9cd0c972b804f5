-- The ranges that lines are.
use Rattle.std.proofs.Common.{◌≡◌, ◌≢◌, ℕ, ◌+◌, ◌≤◌, List, [], ◌∷◌, ◌++◌, length, arith, refl, sym, subst, ◌∙◌}
use Rattle.std.specs.List.{AllByRecursion}
use Rattle.ffv1_texts.specs.Numbers.{IsNumber}
use Rattle.ffv1_texts.proofs.PartSteps.{one_parting, no_parting}
use Rattle.ffv1_texts.proofs.NumberSteps.{one_value}
use Rattle.ffv1_texts.proofs.WordSteps.{HasNoSpace-digits}
use Rattle.ffv1_scan.specs.declared.ranges.ByteRange.{ByteRange}
use Rattle.ffv1_scan.specs.Ranges.{IsRangeLine, AreRangeLines, Rises, ranges_end}

-- ---- the range that a line is

pub no_range : (line : List ℕ) → AllByRecursion (λ x. x ≢ 32) line → (range : ByteRange) → IsRangeLine line range → ⊥
no_range line h range is = no_parting 32 line is.place_digits is.size_digits h is.parted

-- the numbers of a line that is parted so
pub range_numbers : (line a b : List ℕ) (range : ByteRange) → line ≡ a ++ 32 ∷ b → AllByRecursion (λ x. x ≢ 32) a → IsRangeLine line range
    → IsNumber a range.place × IsNumber b range.size
range_numbers line a b range parted h is =
    let one = one_parting 32 is.place_digits is.size_digits a b (HasNoSpace-digits is.place_digits is.place.numeral.1) h (sym is.parted ∙ parted) in
    (subst (λ d. IsNumber d range.place) one.0 is.place, subst (λ d. IsNumber d range.size) one.1 is.size)

-- a line is one range
pub one_place : (line : List ℕ) (r q : ByteRange) → IsRangeLine line r → IsRangeLine line q → r.place ≡ q.place
one_place line r q is also =
    one_value is.place_digits r.place q.place is.place
    (range_numbers line is.place_digits is.size_digits q is.parted (HasNoSpace-digits is.place_digits is.place.numeral.1) also).0

-- ---- ranges

pub AreRangeLines-push : (lines : List (List ℕ)) (ranges : List ByteRange) (line : List ℕ) (range : ByteRange) → AreRangeLines lines ranges
    → IsRangeLine line range → AreRangeLines (lines ++ line ∷ []) (ranges ++ range ∷ [])
AreRangeLines-push [] [] line range h is = (is, tt)
AreRangeLines-push [] (r ∷ ranges) line range h is = absurd h
AreRangeLines-push (l ∷ lines) [] line range h is = absurd h
AreRangeLines-push (l ∷ lines) (r ∷ ranges) line range h is = (h.0, AreRangeLines-push lines ranges line range h.1 is)

pub length-range_lines : (lines : List (List ℕ)) (ranges : List ByteRange) → AreRangeLines lines ranges → length lines ≡ length ranges
length-range_lines [] [] h = refl
length-range_lines [] (r ∷ ranges) h = absurd h
length-range_lines (l ∷ lines) [] h = absurd h
length-range_lines (l ∷ lines) (r ∷ ranges) h = omega (arith, length-range_lines lines ranges h.1)

pub Rises-push : (from : ℕ) (ranges : List ByteRange) (range : ByteRange) → Rises from ranges → ranges_end from ranges ≤ range.place → Rises from (ranges ++ range ∷ [])
Rises-push from [] range h le = (le, tt)
Rises-push from (r ∷ ranges) range h le = (h.0, Rises-push (r.place + r.size) ranges range h.1 le)

pub ranges_end-push : (from : ℕ) (ranges : List ByteRange) (range : ByteRange) → ranges_end from (ranges ++ range ∷ []) ≡ range.place + range.size
ranges_end-push from [] range = refl
ranges_end-push from (r ∷ ranges) range = ranges_end-push (r.place + r.size) ranges range

-- the first of ranges that stand after others begins where these end or after that
pub rises_after : (from : ℕ) (front : List ByteRange) (range : ByteRange) (rest : List ByteRange) → Rises from (front ++ range ∷ rest)
    → ranges_end from front ≤ range.place
rises_after from [] range rest h = h.0
rises_after from (r ∷ front) range rest h = rises_after (r.place + r.size) front range rest h.1

pub rises_front : (from : ℕ) (front rest : List ByteRange) → Rises from (front ++ rest) → Rises from front
rises_front from [] rest h = tt
rises_front from (r ∷ front) rest h = (h.0, rises_front (r.place + r.size) front rest h.1)

-- the end of some ranges is at the place where they begin or after it
pub ranges_end-least : (from : ℕ) (ranges : List ByteRange) → Rises from ranges → from ≤ ranges_end from ranges
ranges_end-least from [] h = omega arith
ranges_end-least from (r ∷ ranges) h = omega (arith, h.0, ranges_end-least (r.place + r.size) ranges h.1)

-- the ranges of a front end before all do
pub ranges_end-front : (from : ℕ) (front rest : List ByteRange) → Rises from (front ++ rest) → ranges_end from front ≤ ranges_end from (front ++ rest)
ranges_end-front from [] rest h = ranges_end-least from rest h
ranges_end-front from (r ∷ front) rest h = ranges_end-front (r.place + r.size) front rest h.1
