-- Reading bits one after the other.
use Rattle.std.specs.Prelude.{◌≡◌, ℕ, ◌+◌, ◌*◌, List, Bool, ◌++◌, length}
use Rattle.ffv1_bits.specs.Bits.{bits_of}

-- a reader: how many bits were read, and the bits that are left, the next one first
pub record Reading : Type 0 where
  pub place : ℕ
  pub left : List Bool

-- From one reading to another exactly these bits were read.
pub record ReadsBits (old : Reading) (bits : List Bool) (new : Reading) : Type 0 where
  pub begins : old.left ≡ bits ++ new.left
  pub moves : new.place ≡ old.place + length bits

-- ---- laws

-- Bytes have eight bits each, and the bits read and those left stay as many as they were.
pub record PlaceAndLeftAddUp : Type 0 where
  pub whole : (bytes : List ℕ) → length (bits_of bytes) ≡ 8 * length bytes
  pub kept : (old new : Reading) (bits : List Bool) → ReadsBits old bits new → new.place + length new.left ≡ old.place + length old.left
