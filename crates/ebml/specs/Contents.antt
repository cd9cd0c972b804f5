-- Elements that follow each other, and the contents of those with one ID (RFC 8794, sections 6 and 11.1).
use Rattle.std.specs.Prelude.{ℕ, ◌+◌, ◌≡◌, ◌==◌, nat_le, if◌then◌else◌, List, [], ◌∷◌, ◌++◌, length, map, filter, take, drop, Option, Some, None, option_map}
use Rattle.std.specs.List.{AllByRecursion, flat_map, fold}
use Rattle.ffv1_bits.specs.Parity.{AreBytes}
use Rattle.ebml.specs.Vint.{number_of}
use Rattle.ebml.specs.Children.{IsElement}
use Rattle.ebml.specs.declared.head.Head.{Head}

-- an element: its head, and all its bytes
pub record ElementValue : Type 0 where
  pub head : Head
  pub bytes : List ℕ

-- Elements, of whatever IDs, follow each other from the start of bytes; then come bytes that no element begins.
pub record AreElements (bytes : List ℕ) (elements : List ElementValue) : Type 0 where
  pub rest : List ℕ
  pub joined : bytes ≡ flat_map (λ element. element.bytes) elements ++ rest
  pub each : AllByRecursion (λ element. IsElement element.head element.bytes) elements
  pub last : (n : ℕ) (head : Head) → IsElement head (take n rest) → ⊥

-- the contents of those with this ID
abbrev pub contents_with : ℕ → List ElementValue → List (List ℕ)
contents_with id elements = map (λ element. drop element.head.length element.bytes) (filter (λ element. element.head.id == id) elements)

-- these are the contents, in order, of the elements with this ID that follow each other from the start of bytes
abbrev pub AreContents : ℕ → List ℕ → List (List ℕ) → Type 0
AreContents id bytes contents = (elements : List ElementValue) × AreElements bytes elements × (contents ≡ contents_with id elements)

-- the last of some, if there is one
abbrev pub last_among : {X : Type 0} → List X → Option X
last_among xs = fold (λ _ x. Some x) None xs

-- this holds of the content of the last element with this ID, if there is one
abbrev pub OfLast : ℕ → List ℕ → (Option (List ℕ) → Type 0) → Type 0
OfLast id bytes P = (contents : List (List ℕ)) × AreContents id bytes contents × P (last_among contents)

-- ---- the places of contents

-- bytes, and where they begin
pub record PlacedBytes : Type 0 where
  pub place : ℕ
  pub bytes : List ℕ

-- the contents of those with this ID, each where it begins, of elements that begin at this place
abbrev pub placed_with : (id place : ℕ) → List ElementValue → List PlacedBytes
placed_with id place [] = []
placed_with id place (element ∷ elements) =
    if element.head.id == id
    then record { place = place + element.head.length; bytes = drop element.head.length element.bytes } ∷ placed_with id (place + length element.bytes) elements
    else placed_with id (place + length element.bytes) elements

-- these are the contents, in order, of the elements with this ID that follow each other from the start of bytes, which begin at this place
abbrev pub AreContentsAt : (id place : ℕ) → List ℕ → List PlacedBytes → Type 0
AreContentsAt id place bytes placed = (elements : List ElementValue) × AreElements bytes elements × (placed ≡ placed_with id place elements)

-- this holds of the last of them, if there is one
abbrev pub OfLastPlaced : (id place : ℕ) → List ℕ → (Option PlacedBytes → Type 0) → Type 0
OfLastPlaced id place bytes P = (placed : List PlacedBytes) × AreContentsAt id place bytes placed × P (last_among placed)

-- where it begins
abbrev pub place_in : Option PlacedBytes → Option ℕ
place_in found = option_map (λ it. it.place) found

-- ---- numbers

-- the value of an Unsigned Integer Element (RFC 8794, section 7.2): 0 where it has more than 8 octets
abbrev pub unsigned_of : List ℕ → ℕ
unsigned_of content = if nat_le (length content) 8 then number_of content else 0

-- ---- laws

-- The contents of the elements with one ID are one list.
abbrev pub ContentsAreOne : Type 0
ContentsAreOne =
    (id : ℕ) (bytes : List ℕ) (contents others : List (List ℕ)) → AreBytes bytes → AreContents id bytes contents → AreContents id bytes others → contents ≡ others
