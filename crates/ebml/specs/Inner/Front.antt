-- What begins bytes: a Variable-Size Integer, by its first octet.
use Rattle.std.specs.Prelude.{ℕ, ◌-◌, ◌^◌, ◌≤◌, ◌<◌, ◌≡◌, ◌⊎◌, List, length, take}
use Rattle.ebml.specs.Vint.{number_of, IsVint}
use Rattle.ebml.specs.declared.vint.Vint.{Vint}

pub record HasVint (bytes : List ℕ) (most : ℕ) (vint : Vint) : Type 0 where
  pub short : vint.length ≤ most
  pub room : vint.length ≤ length bytes
  pub is : IsVint (take vint.length bytes)
  pub number : vint.number ≡ number_of (take vint.length bytes)

-- the place of the first 1 bit in an octet, from 1 on, or 9
pub record IsLengthBy (first n : ℕ) : Type 0 where
  pub some : 1 ≤ n
  pub short : n ≤ 9
  pub above : first < 2 ^ (9 - n)
  pub below : (n ≡ 9) ⊎ (2 ^ (8 - n) ≤ first)
