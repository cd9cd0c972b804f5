-- The items of a Matroska file (RFC 9559): the elements at its top and those of its Segment, in one list, and what no element covers.
use Rattle.std.specs.Prelude.{ℕ, ◌+◌, ◌-◌, ◌≤◌, ◌<◌, ◌≡◌, ◌≢◌, ◌⊎◌, List, [], ◌∷◌, ◌++◌, length, take, drop, min, Some, None, Contains}
use Rattle.std.specs.List.{flat_map}
use Rattle.ffv1_bits.specs.Parity.{AreBytes}
use Rattle.ebml.specs.Vint.{number_of}
use Rattle.ebml.specs.Head.{HasHead}
use Rattle.ebml.specs.Children.{AreChildren}
use Rattle.ebml.specs.Masters.{segment_id, cluster_id, cluster_ids}
use Rattle.ebml.specs.declared.head.Head.{Head}
use Rattle.ebml.specs.declared.items.Kind.{Kind}
use Rattle.ebml.specs.declared.items.Kind.TheVariants.{Segment, Element, Endless, Unknown}

-- the known IDs of four octets: EBML, Segment, SeekHead, Info, Tracks, Cues, Cluster, Attachments, Chapters, Tags
abbrev pub long_ids : List ℕ
long_ids =
    0x1A45DFA3 ∷ 0x18538067 ∷ 0x114D9B74 ∷ 0x1549A966 ∷ 0x1654AE6B ∷ 0x1C53BB6B ∷ 0x1F43B675 ∷ 0x1941A469 ∷ 0x1043A770 ∷ 0x1254C367 ∷ []

-- and all: Void too
abbrev pub top_ids : List ℕ
top_ids = 0xEC ∷ long_ids

-- The size of a head is known, or it is a Segment's or a Cluster's.
abbrev pub IsSized : Head → Type 0
IsSized head = head.size ≡ None → (head.id ≡ segment_id) ⊎ (head.id ≡ cluster_id)

-- A head at the top: of a known ID, with a size.
pub record IsTop (head : Head) : Type 0 where
  pub known : Contains top_ids head.id
  pub sized : IsSized head

-- the four bytes of a known ID begin the bytes
abbrev pub BeginsKnown : List ℕ → Type 0
BeginsKnown bytes = (4 ≤ length bytes) × Contains long_ids (number_of (take 4 bytes))

-- An item that begins with a head at the top.
pub record IsHeaded (head : Head) (item : List ℕ) : Type 0 where
  pub top : IsTop head
  pub has : HasHead item head

-- An unknown item: no head at the top begins it, and it goes up to the next place at which a known ID stands, or to the end.
pub record IsUnknown (item following : List ℕ) : Type 0 where
  pub some : 0 < length item
  pub no_element : (head : Head) → IsTop head → HasHead (item ++ following) head → ⊥
  pub none_within : (place : ℕ) → 0 < place → place < length item → BeginsKnown (drop place (item ++ following)) → ⊥
  pub up_to : (following ≡ []) ⊎ BeginsKnown following

-- An item of each kind, by what follows it up to the end of the file. A Segment is its head, and goes on after it. An element of known size
-- ends there, or with the file. A Cluster of unknown size has the children that follow its head.
abbrev pub IsItem : Kind → List ℕ → List ℕ → Type 0
IsItem (Segment head) item following = IsHeaded head item × (head.id ≡ segment_id) × (length item ≡ head.length)
IsItem (Element head) item following =
    IsHeaded head item × (head.id ≢ segment_id)
    × ((size : ℕ) × (head.size ≡ Some size) × (length item ≡ min (head.length + size) (length (item ++ following))))
IsItem (Endless head) item following =
    IsHeaded head item × (head.id ≢ segment_id) × (head.size ≡ None)
    × ((children : List (List ℕ)) × AreChildren cluster_ids (drop head.length item ++ following) children following)
IsItem Unknown item following = IsUnknown item following

pub record ItemValue : Type 0 where
  pub kind : Kind
  pub bytes : List ℕ

abbrev pub bytes_of_items : List ItemValue → List ℕ
bytes_of_items items = flat_map (λ item. item.bytes) items

abbrev pub EachIsItem : List ItemValue → Type 0
EachIsItem [] = Unit {0}
EachIsItem (item ∷ items) = IsItem item.kind item.bytes (bytes_of_items items) × EachIsItem items

-- Each is one by what follows it, which ends with these bytes: so stand the items that a pass has gone past, by what is left of the file.
abbrev pub EachBefore : List ItemValue → List ℕ → Type 0
EachBefore [] rest = Unit {0}
EachBefore (item ∷ items) rest = IsItem item.kind item.bytes (bytes_of_items items ++ rest) × EachBefore items rest

-- The items of a file: they cover it, and each is one by what follows it.
pub record AreItems (file : List ℕ) (items : List ItemValue) : Type 0 where
  pub joined : file ≡ bytes_of_items items
  pub each : EachIsItem items

-- ---- laws

-- The items of a file are one list.
abbrev pub ItemsAreOne : Type 0
ItemsAreOne = (file : List ℕ) (items others : List ItemValue) → AreBytes file → AreItems file items → AreItems file others → items ≡ others

-- An element that is there whole is an item whatever follows it.
abbrev pub WholeItemsAreLocal : Type 0
WholeItemsAreLocal =
    (head : Head) (item following more : List ℕ) → IsItem (Element head) item following → head.size ≡ Some (length item - head.length)
    → IsItem (Element head) item more
