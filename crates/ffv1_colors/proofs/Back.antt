-- Coding and its reverse.
use Rattle.std.proofs.Common.{◌≡◌, ◌∙◌, pow_mono, ℕ, ◌+◌, ◌-◌, ◌*◌, ◌/◌, ◌%◌, ◌^◌, ◌<◌, ◌≤◌, ℤ, pos, negsuc, ◌+ℤ◌, ◌-ℤ◌, arith, refl, ap, Bool, true, false}
use Rattle.std.specs.Int.{int_div_euclid}
use Rattle.std.proofs.lemmas.Int.{ints}
use Rattle.std.proofs.lemmas.Grind.{pow_more}
use Rattle.ffv1_colors.specs.Colors.{Samples, CodingValue, swapped, coded_of, coded_of_colors, green_of, colors_of, colors_of_coded, AreOfBits, ColorsAreBack, CodedColorsFit}
use Rattle.ffv1_colors.specs.Colors.{IsOffset}

abbrev quarter : ℤ → ℤ
quarter z = int_div_euclid z (pos 4)

-- a quarter, rounded down: what is left is under four
pub quarter_is : (z : ℤ) → (m : ℕ) × (m < 4) × (z ≡ ((quarter z +ℤ quarter z) +ℤ (quarter z +ℤ quarter z)) +ℤ pos m)
quarter_is (pos n) = (n % 4, omega arith, omega (arith, ints))
quarter_is (negsuc n) = (3 - n % 4, omega arith, omega (arith, ints))

swapped_back : (is_swapped : Bool) (p : Samples) → swapped is_swapped (swapped is_swapped p) ≡ p
swapped_back true p = refl
swapped_back false p = refl

-- ---- without a change of places

sums_back : (o : ℕ) (g b r : ℤ) → (((b -ℤ g) +ℤ pos o) -ℤ pos o) +ℤ (((r -ℤ g) +ℤ pos o) -ℤ pos o) ≡ (b -ℤ g) +ℤ (r -ℤ g)
sums_back o g b r = omega (arith, ints)

colors_back : (depth : ℕ) (p : Samples) → colors_of_coded depth (coded_of_colors depth p) ≡ p
colors_back depth p =
    let o = 2 ^ depth in
    let green : green_of depth (coded_of_colors depth p) ≡ p.first =
    rw (sums_back (2 ^ depth) p.first p.second p.third) (omega (arith, ints)) in
    let blue : (((p.second -ℤ p.first) +ℤ pos (2 ^ depth)) -ℤ pos (2 ^ depth)) +ℤ p.first ≡ p.second = omega (arith, ints) in
    let red : (((p.third -ℤ p.first) +ℤ pos (2 ^ depth)) -ℤ pos (2 ^ depth)) +ℤ p.first ≡ p.third = omega (arith, ints) in
    rw (green, blue, red) refl

differences_back : (g b : ℤ) → (b +ℤ g) -ℤ g ≡ b
differences_back g b = omega (arith, ints)

coded_back : (depth : ℕ) (q : Samples) → coded_of_colors depth (colors_of_coded depth q) ≡ q
coded_back depth q =
    let g = green_of depth q in
    let blue : ((q.second -ℤ pos (2 ^ depth)) +ℤ g) -ℤ g ≡ q.second -ℤ pos (2 ^ depth) = differences_back g (q.second -ℤ pos (2 ^ depth)) in
    let red : ((q.third -ℤ pos (2 ^ depth)) +ℤ g) -ℤ g ≡ q.third -ℤ pos (2 ^ depth) = differences_back g (q.third -ℤ pos (2 ^ depth)) in
    let first : g +ℤ quarter ((q.second -ℤ pos (2 ^ depth)) +ℤ (q.third -ℤ pos (2 ^ depth))) ≡ q.first = omega (arith, ints) in
    let second : (q.second -ℤ pos (2 ^ depth)) +ℤ pos (2 ^ depth) ≡ q.second = omega (arith, ints) in
    let third : (q.third -ℤ pos (2 ^ depth)) +ℤ pos (2 ^ depth) ≡ q.third = omega (arith, ints) in
    rw (blue, red, first, second, third) refl

-- ---- with one

pub colors_are_back : ColorsAreBack
unfolding coded_of colors_of
colors_are_back =
    record {
      colors = λ c p. ap (swapped c.is_swapped) (colors_back c.depth (swapped c.is_swapped p)) ∙ swapped_back c.is_swapped p;
      coded = λ c q. ap (coded_of_colors c.depth) (swapped_back c.is_swapped (colors_of_coded c.depth q)) ∙ coded_back c.depth q;
    }

-- ---- bounds

pub swapped_color : (is_swapped : Bool) (bits : ℕ) (p : Samples) → AreOfBits bits p → AreOfBits bits (swapped is_swapped p)
swapped_color true bits p h = record { first = h.second; second = h.first; third = h.third }
swapped_color false bits p h = h

doubled : (depth : ℕ) → 2 ^ (depth + 1) ≡ 2 * 2 ^ depth
doubled depth = omega (arith, pow_more 2 depth)

coded_fits : (depth : ℕ) (p : Samples) → AreOfBits depth p → AreOfBits (depth + 1) (coded_of_colors depth p)
coded_fits depth p h =
    let four = quarter_is ((p.second -ℤ p.first) +ℤ (p.third -ℤ p.first)) in
    let twice = doubled depth in
    record {
      first = record {
        low = omega (arith, ints, h.first.low, h.second.low, h.third.low, four.1, four.2);
        high = omega (arith, ints, h.first.high, h.second.high, h.third.high, h.first.low, four.1, four.2, twice);
      };
      second = record { low = omega (arith, ints, h.first.high, h.second.low); high = omega (arith, ints, h.first.low, h.second.high, twice) };
      third = record { low = omega (arith, ints, h.first.high, h.third.low); high = omega (arith, ints, h.first.low, h.third.high, twice) };
    }

pub coded_colors_fit : CodedColorsFit
unfolding coded_of
coded_colors_fit c p h = coded_fits c.depth (swapped c.is_swapped p) (swapped_color c.is_swapped c.depth p h)

-- what is coded, as natural numbers
pub coded_is : (depth o g b r : ℕ) → o ≡ 2 ^ depth → g < o
    → record { first = pos ((2 * g + b + r) / 4); second = pos (b + o - g); third = pos (r + o - g) }
    ≡ coded_of_colors depth (record { first = pos g; second = pos b; third = pos r })
coded_is depth o g b r is small =
    let four = quarter_is ((pos b -ℤ pos g) +ℤ (pos r -ℤ pos g)) in
    let first : pos ((2 * g + b + r) / 4) ≡ pos g +ℤ quarter ((pos b -ℤ pos g) +ℤ (pos r -ℤ pos g)) = omega (arith, ints, four.1, four.2) in
    let second : pos (b + o - g) ≡ (pos b -ℤ pos g) +ℤ pos (2 ^ depth) = omega (arith, ints, is) in
    let third : pos (r + o - g) ≡ (pos r -ℤ pos g) +ℤ pos (2 ^ depth) = omega (arith, ints, is) in
    rw (first, second, third) refl

-- the offset that is computed
pub offset_is : (depth : ℕ) → depth ≤ 16 → IsOffset depth (1 * 2 ^ depth % 4294967296)
offset_is depth h =
    let most : 2 ^ depth ≤ 65536 = pow_mono h in
    record { is = omega (arith, most); double = omega (arith, most, doubled depth); small = omega (arith, most) }

pub colors_coded : (c : CodingValue) (q p : Samples) → p ≡ colors_of c q → coded_of c p ≡ q
colors_coded c q p e = ap (coded_of c) e ∙ colors_are_back.coded c q

-- samples that are computed, as those that the definition gives
pub planes_are : (c : CodingValue) (o l b r : ℕ) (luma blue red part : ℤ) → o ≡ 2 ^ c.depth → luma ≡ pos l → blue ≡ pos b -ℤ pos o → red ≡ pos r -ℤ pos o
    → part ≡ quarter (blue +ℤ red)
    → swapped c.is_swapped (record { first = luma -ℤ part; second = blue +ℤ (luma -ℤ part); third = red +ℤ (luma -ℤ part) })
    ≡ colors_of c (record { first = pos l; second = pos b; third = pos r })
unfolding colors_of
planes_are c o l b r luma blue red part is luma_is blue_is red_is part_is = rw (part_is, luma_is, blue_is, red_is, is) refl
