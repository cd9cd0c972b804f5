-- The parts that stand in a master: what its children are, and what follows them up to its end (RFC 9559, sections 5.1.3 and 10).
use Rattle.std.specs.Prelude.{ℕ, ◌+◌, ◌==◌, ◌≡◌, if◌then◌else◌, Bool, List, [], ◌∷◌, ◌++◌, length, drop, Option, Some, None}
use Rattle.std.specs.List.{concat}
use Rattle.ebml.specs.Children.{IsElement, AreChildren}
use Rattle.ebml.specs.Contents.{unsigned_of}
use Rattle.ebml.specs.Masters.{child_ids, block_group_ids}
use Rattle.ebml.specs.declared.head.Head.{Head}
use Rattle.matroska.specs.declared.track.Track.{Track}
use Rattle.matroska_parts.specs.declared.parts.Part.{Part}
use Rattle.matroska_parts.specs.declared.parts.Part.TheVariants as part
use Rattle.matroska_parts.specs.declared.parts.BlockPart.{BlockPart}
use Rattle.matroska_parts.specs.declared.masters.ChildKind.{ChildKind}
use Rattle.matroska_parts.specs.declared.masters.ChildKind.TheVariants as child
use Rattle.matroska_parts.specs.BlockParts.{IsBlockPart}

-- Timestamp; SimpleBlock and Block; BlockGroup
abbrev pub child_kind : ℕ → ChildKind
child_kind id =
    if id == 0xE7 then child.Timestamp
    else if id == 0xA3 then child.Block
    else if id == 0xA1 then child.Block
    else if id == 0xA0 then child.Group
    else child.Other

-- pieces that follow each other from a place on have these parts, each its own by its place
abbrev pub EachHasParts : (ℕ → List ℕ → List Part → Type 0) → ℕ → List (List ℕ) → List Part → Type 0
EachHasParts HasParts place [] parts = parts ≡ []
EachHasParts HasParts place (piece ∷ pieces) parts =
    (own : List Part) × (more : List Part) × (parts ≡ own ++ more) × HasParts place piece own × EachHasParts HasParts (place + length piece) pieces more

-- bytes that are nothing known
abbrev pub unknown_parts : ℕ → List ℕ → List Part
unknown_parts place [] = []
unknown_parts place (byte ∷ bytes) = part.Unknown record { place = place; size = length (byte ∷ bytes) } ∷ []

-- The parts in a master's content at this place: those of its children, and what follows these.
pub record AreMasterParts (HasParts : ℕ → List ℕ → List Part → Type 0) (ids : List ℕ) (place : ℕ) (content : List ℕ) (parts : List Part) : Type 0 where
  pub children : List (List ℕ)
  pub rest : List ℕ
  pub are_children : AreChildren ids content children rest
  pub own : List Part
  pub each : EachHasParts HasParts place children own
  pub joined : parts ≡ own ++ unknown_parts (place + length (concat children)) rest

-- a block is one part
abbrev pub IsOneBlock : List Track → Bool → ℕ → (element content : List ℕ) → List Part → Type 0
IsOneBlock tracks vouched place element content parts =
    (block : BlockPart) × (parts ≡ part.Block block ∷ []) × IsBlockPart tracks vouched place element content block

abbrev pub IsGroupChildBy : ChildKind → List Track → Bool → ℕ → (element content : List ℕ) → List Part → Type 0
IsGroupChildBy child.Block tracks vouched place element content parts = IsOneBlock tracks vouched place element content parts
IsGroupChildBy _ tracks vouched place element content parts = parts ≡ []

-- the parts of a child of a BlockGroup: a Block's, and none of any other
abbrev pub IsGroupChild : List Track → Bool → ℕ → List ℕ → List Part → Type 0
IsGroupChild tracks vouched place element parts =
    (head : Head) × IsElement head element
    × IsGroupChildBy (child_kind head.id) tracks vouched place element (drop head.length element) parts

-- in a master at this place, by its kind
abbrev pub IsMasterChildBy : ChildKind → List Track → Bool → (place head_length : ℕ) → (element content : List ℕ) → List Part → Type 0
IsMasterChildBy child.Timestamp tracks vouched place head_length element content parts = parts ≡ part.Timestamp (unsigned_of content) ∷ []
IsMasterChildBy child.Block tracks vouched place head_length element content parts = IsOneBlock tracks vouched place element content parts
IsMasterChildBy child.Group tracks vouched place head_length element content parts =
    AreMasterParts (IsGroupChild tracks vouched) block_group_ids (place + head_length) content parts
IsMasterChildBy child.Other tracks vouched place head_length element content parts = parts ≡ []

-- the parts of a child of a master of the top
abbrev pub IsMasterChild : List Track → Bool → ℕ → List ℕ → List Part → Type 0
IsMasterChild tracks vouched place element parts =
    (head : Head) × IsElement head element
    × IsMasterChildBy (child_kind head.id) tracks vouched place head.length element (drop head.length element) parts

abbrev pub AreContentPartsBy : Option (List ℕ) → List Track → Bool → ℕ → List ℕ → List Part → Type 0
AreContentPartsBy None tracks vouched place content parts = parts ≡ []
AreContentPartsBy (Some ids) tracks vouched place content parts = AreMasterParts (IsMasterChild tracks vouched) ids place content parts

-- the parts in the content of an element of the top with this ID; none if it is no master
abbrev pub AreContentParts : ℕ → List Track → Bool → ℕ → List ℕ → List Part → Type 0
AreContentParts id tracks vouched place content parts = AreContentPartsBy (child_ids id) tracks vouched place content parts
