-- Variable-Size Integers (RFC 8794, section 4).
use Rattle.std.specs.Prelude.{ℕ, ◌-◌, ◌*◌, ◌^◌, ◌≤◌, ◌<◌, ◌≡◌, List, length, take}
use Rattle.std.specs.Int.Digits.{number_from_digits}
use Rattle.ebml.specs.declared.vint.VintData.{VintData}

-- bytes as a number, the highest first
abbrev pub number_of : List ℕ → ℕ
number_of bytes = number_from_digits 256 bytes

-- the worth of the marker of one that has n octets: 7n bits follow it
abbrev pub marker : ℕ → ℕ
marker n = 2 ^ (7 * n)

-- The bytes are one: of their bits the first 1 is the marker, which 7 bits follow for each octet.
pub record IsVint (bytes : List ℕ) : Type 0 where
  pub marked : marker (length bytes) ≤ number_of bytes
  pub first : number_of bytes < 2 * marker (length bytes)

-- the number after the marker
abbrev pub data_of : List ℕ → ℕ
data_of bytes = number_of bytes - marker (length bytes)

-- One of at most 8 octets begins the bytes; its length, and the number after its marker.
pub record HasData (bytes : List ℕ) (found : VintData) : Type 0 where
  pub short : found.length ≤ 8
  pub room : found.length ≤ length bytes
  pub is : IsVint (take found.length bytes)
  pub value : found.value ≡ data_of (take found.length bytes)
