-- The prediction as the code computes it, by signed numbers of 64 bits.
use Rattle.std.proofs.Common.{◌≡◌, ℕ, ◌+◌, ◌-◌, ◌<◌, ℤ, pos, ◌+ℤ◌, ◌-ℤ◌, arith, to_z, of_z, w64, ◌∙◌}
use Rattle.std.specs.Int.{int_max, int_min}
use Rattle.std.proofs.lemmas.Int.{ints, clamps, to_z-of_z}
use Rattle.ffv1_plane.specs.Samples.{median}

abbrev kept : ℤ → ℤ
kept z = to_z w64 (of_z w64 z)

kept_number : (n : ℕ) → n < 4294967296 → kept (pos n) ≡ pos n
kept_number n small = to_z-of_z w64 (pos n) (omega (arith, ints))

of_sums : (l t c : ℕ) → l < 4294967296 → t < 4294967296 → c < 4294967296
    → int_min (int_max ((pos l +ℤ pos t) -ℤ pos c) (int_min (pos l) (pos t))) (int_max (pos l) (pos t)) ≡ pos (median l t (l + t - c))
of_sums l t c a b d = omega (arith, ints, clamps)

pub median_is : (l t c : ℕ) (lz tz cz low high first last : ℤ) → l < 4294967296 → t < 4294967296 → c < 4294967296 → lz ≡ pos l → tz ≡ pos t → cz ≡ pos c
    → low ≡ int_min (kept lz) (kept tz) → first ≡ int_max (kept (kept (kept lz +ℤ kept tz) -ℤ kept cz)) (kept low)
    → high ≡ int_max (kept lz) (kept tz) → last ≡ int_min (kept first) (kept high)
    → (kept last ≡ pos (median l t (l + t - c))) × ((bound : ℕ) → l < bound → t < bound → median l t (l + t - c) < bound)
median_is l t c lz tz cz low high first last a b d lz_is tz_is cz_is low_is first_is high_is last_is =
    let left : kept lz ≡ pos l = rw lz_is (kept_number l a) in
    let top : kept tz ≡ pos t = rw tz_is (kept_number t b) in
    let corner : kept cz ≡ pos c = rw cz_is (kept_number c d) in
    let lower : low ≡ int_min (pos l) (pos t) = (rw (left, top) at low_is) in
    let higher : high ≡ int_max (pos l) (pos t) = (rw (left, top) at high_is) in
    let lower_kept : kept low ≡ low = to_z-of_z w64 low (omega (arith, ints, clamps, lower)) in
    let higher_kept : kept high ≡ high = to_z-of_z w64 high (omega (arith, ints, clamps, higher)) in
    let both : kept (pos l +ℤ pos t) ≡ pos l +ℤ pos t = to_z-of_z w64 (pos l +ℤ pos t) (omega (arith, ints)) in
    let slope : kept ((pos l +ℤ pos t) -ℤ pos c) ≡ (pos l +ℤ pos t) -ℤ pos c =
    to_z-of_z w64 ((pos l +ℤ pos t) -ℤ pos c) (omega (arith, ints)) in
    let first_as : first ≡ int_max ((pos l +ℤ pos t) -ℤ pos c) low = (rw (left, top, corner, both, slope, lower_kept) at first_is) in
    let first_kept : kept first ≡ first = to_z-of_z w64 first (omega (arith, ints, clamps, first_as, lower)) in
    let last_as : last ≡ int_min first high = (rw (first_kept, higher_kept) at last_is) in
    let last_kept : kept last ≡ last = to_z-of_z w64 last (omega (arith, ints, clamps, last_as, first_as, lower, higher)) in
    let whole : last ≡ pos (median l t (l + t - c)) = rw (last_as, first_as, lower, higher) (of_sums l t c a b d) in
    (last_kept ∙ whole, λ bound low_left low_top. omega arith)
