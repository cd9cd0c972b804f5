-- Heads of elements: an Element ID and an Element Data Size (RFC 8794, sections 5 and 6).
use Rattle.std.specs.Prelude.{ℕ, ◌+◌, ◌≤◌, ◌≡◌, ◌==◌, if◌then◌else◌, List, ◌++◌, length, take, Option, Some, None}
use Rattle.ebml.specs.Vint.{number_of, marker, data_of, IsVint}
use Rattle.ebml.specs.declared.head.Head.{Head}

-- the size that bytes give; it is unknown where all bits after the marker are 1 (section 6.2)
abbrev pub size_of : List ℕ → Option ℕ
size_of bytes = if data_of bytes + 1 == marker (length bytes) then None else Some (data_of bytes)

-- The bytes are a head: an ID of at most 4 octets, the number with its marker, and a size of at most 8.
pub record IsHead (id : ℕ) (size : Option ℕ) (bytes : List ℕ) : Type 0 where
  pub id_bytes : List ℕ
  pub size_bytes : List ℕ
  pub joined : bytes ≡ id_bytes ++ size_bytes
  pub id_is_vint : IsVint id_bytes
  pub id_short : length id_bytes ≤ 4
  pub id_is : id ≡ number_of id_bytes
  pub size_is_vint : IsVint size_bytes
  pub size_short : length size_bytes ≤ 8
  pub size_is : size ≡ size_of size_bytes

-- A head begins the bytes.
pub record HasHead (bytes : List ℕ) (head : Head) : Type 0 where
  pub room : head.length ≤ length bytes
  pub is : IsHead head.id head.size (take head.length bytes)

-- ---- laws

-- A head is seen in 12 bytes: what begins a front of bytes begins the bytes, and what begins them begins any front of 12 or more.
abbrev pub HeadsAreLocal : Type 0
HeadsAreLocal =
    (front more : List ℕ) (head : Head) → (HasHead front head → HasHead (front ++ more) head)
    × (12 ≤ length front → HasHead (front ++ more) head → HasHead front head)
