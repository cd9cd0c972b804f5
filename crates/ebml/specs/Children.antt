-- Elements, and the children of a master (RFC 8794, sections 6 and 7).
use Rattle.std.specs.Prelude.{ℕ, ◌-◌, ◌≡◌, List, ◌++◌, length, take, Some, Contains}
use Rattle.std.specs.List.{AllByRecursion, concat}
use Rattle.ffv1_bits.specs.Parity.{AreBytes}
use Rattle.ebml.specs.Head.{HasHead}
use Rattle.ebml.specs.declared.head.Head.{Head}

-- The bytes are an element: a head begins them, and its size is the number of those after it.
pub record IsElement (head : Head) (bytes : List ℕ) : Type 0 where
  pub has : HasHead bytes head
  pub whole : head.size ≡ Some (length bytes - head.length)

-- an element with one of these IDs
pub record IsChild (ids bytes : List ℕ) : Type 0 where
  pub head : Head
  pub element : IsElement head bytes
  pub known : Contains ids head.id

-- no child begins the bytes
abbrev pub BeginsNoChild : List ℕ → List ℕ → Type 0
BeginsNoChild ids bytes = (n : ℕ) → IsChild ids (take n bytes) → ⊥

-- The content of a master: its children, and then bytes that no child begins.
pub record AreChildren (ids content : List ℕ) (children : List (List ℕ)) (rest : List ℕ) : Type 0 where
  pub joined : content ≡ concat children ++ rest
  pub each : AllByRecursion (IsChild ids) children
  pub last : BeginsNoChild ids rest

-- ---- laws

-- The children of a content are one list, and so is what follows them.
abbrev pub ChildrenAreOne : Type 0
ChildrenAreOne =
    (ids content : List ℕ) (children others : List (List ℕ)) (rest other_rest : List ℕ) → AreBytes content → AreChildren ids content children rest
    → AreChildren ids content others other_rest → (children ≡ others) × (rest ≡ other_rest)
