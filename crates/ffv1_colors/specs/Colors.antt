-- The colours of RGB, and the samples that are coded of them (RFC 9043, section 3.7.2).
use Rattle.std.specs.Prelude.{◌≡◌, ℕ, ◌+◌, ◌*◌, ◌^◌, ◌≤◌, ◌⊎◌, Bool, not, ◌&&◌, nat_le, ℤ, pos, ◌+ℤ◌, ◌-ℤ◌, ◌≤ℤ◌, ◌<ℤ◌, if◌then◌else◌}
use Rattle.std.specs.Int.{int_div_euclid}

-- the bits of a sample of the picture, and whether green and blue change places
pub record CodingValue : Type 0 where
  pub depth : ℕ
  pub is_swapped : Bool

-- They do at 9 to 15 bits without an alpha plane.
abbrev pub are_swapped : ℕ → Bool → Bool
are_swapped depth has_alpha = nat_le 9 depth && nat_le depth 15 && not has_alpha

-- Three samples of a place: of the planes G, B and R, or of the three coded planes, luma and two differences.
pub record Samples : Type 0 where
  pub first : ℤ
  pub second : ℤ
  pub third : ℤ

-- green and blue, each in its place or in the other's
abbrev pub swapped : Bool → Samples → Samples
swapped is_swapped p = if is_swapped then (record { first = p.second; second = p.first; third = p.third }) else p

-- What is coded: blue and red less green, each lifted by 2 ^ depth, and green with a quarter of both differences.
abbrev pub coded_of_colors : ℕ → Samples → Samples
coded_of_colors depth p =
    record {
      first = p.first +ℤ int_div_euclid ((p.second -ℤ p.first) +ℤ (p.third -ℤ p.first)) (pos 4);
      second = (p.second -ℤ p.first) +ℤ pos (2 ^ depth);
      third = (p.third -ℤ p.first) +ℤ pos (2 ^ depth);
    }

unfoldable pub coded_of : CodingValue → Samples → Samples
coded_of c p = coded_of_colors c.depth (swapped c.is_swapped p)

-- And back: green, and the others by it.
abbrev pub green_of : ℕ → Samples → ℤ
green_of depth q = q.first -ℤ int_div_euclid ((q.second -ℤ pos (2 ^ depth)) +ℤ (q.third -ℤ pos (2 ^ depth))) (pos 4)

abbrev pub colors_of_coded : ℕ → Samples → Samples
colors_of_coded depth q =
    record {
      first = green_of depth q;
      second = (q.second -ℤ pos (2 ^ depth)) +ℤ green_of depth q;
      third = (q.third -ℤ pos (2 ^ depth)) +ℤ green_of depth q;
    }

unfoldable pub colors_of : CodingValue → Samples → Samples
colors_of c q = swapped c.is_swapped (colors_of_coded c.depth q)

-- ---- bounds

-- a number of so many bits
pub record IsOfBits (bits : ℕ) (sample : ℤ) : Type 0 where
  pub low : pos 0 ≤ℤ sample
  pub high : sample <ℤ pos (2 ^ bits)

pub record AreOfBits (bits : ℕ) (p : Samples) : Type 0 where
  pub first : IsOfBits bits p.first
  pub second : IsOfBits bits p.second
  pub third : IsOfBits bits p.third

-- a colour of the picture
abbrev pub IsColor : CodingValue → Samples → Type 0
IsColor c p = AreOfBits c.depth p

-- samples of the coded planes have one bit more
abbrev pub IsCodedColor : CodingValue → Samples → Type 0
IsCodedColor c q = AreOfBits (c.depth + 1) q

-- The plane of this number is the first in which a sample is no number of the picture's bits.
abbrev pub IsFirstOutside : CodingValue → Samples → ℕ → Type 0
IsFirstOutside c p plane =
    ((plane ≡ 0) × (IsOfBits c.depth p.first → ⊥))
    ⊎ ((plane ≡ 1) × IsOfBits c.depth p.first × (IsOfBits c.depth p.second → ⊥))
    ⊎ ((plane ≡ 2) × IsOfBits c.depth p.first × IsOfBits c.depth p.second × (IsOfBits c.depth p.third → ⊥))

-- The offset of differences: 2 ^ depth, and 65536 at most. Coded samples have one bit more.
pub record IsOffset (depth offset : ℕ) : Type 0 where
  pub is : offset ≡ 2 ^ depth
  pub double : 2 ^ (depth + 1) ≡ 2 * offset
  pub small : offset ≤ 65536

-- ---- laws

-- Coding and its reverse undo each other, whatever the numbers: so samples are coded of one colour at most.
pub record ColorsAreBack : Type 0 where
  pub colors : (c : CodingValue) (p : Samples) → colors_of c (coded_of c p) ≡ p
  pub coded : (c : CodingValue) (q : Samples) → coded_of c (colors_of c q) ≡ q

-- What is coded of a colour has one bit more than it.
abbrev pub CodedColorsFit : Type 0
CodedColorsFit = (c : CodingValue) (p : Samples) → IsColor c p → IsCodedColor c (coded_of c p)
