-- The parts of a whole file: those of its items, in order (RFC 9559, section 5.1), by the tracks that its first Tracks describes.
use Rattle.std.specs.Prelude.{ℕ, ◌+◌, ◌==◌, ◌≡◌, ◌≤◌, ◌<◌, ◌⊎◌, ◌^◌, Bool, true, false, ◌&&◌, if◌then◌else◌, List, [], ◌∷◌, ◌++◌, length, drop, Option, Some, None}
use Rattle.ebml.specs.Items.{ItemValue, AreItems}
use Rattle.ebml.specs.declared.head.Head.{Head}
use Rattle.ebml.specs.declared.items.Kind.{Kind}
use Rattle.ebml.specs.declared.items.Kind.TheVariants as kind
use Rattle.matroska.specs.Tracks.{AreTracksOf}
use Rattle.matroska.specs.NamedTracks.{named_tracks}
use Rattle.matroska.specs.declared.track.Track.{Track}
use Rattle.matroska_parts.specs.TopElements.{top_element_of}
use Rattle.matroska_parts.specs.MasterParts.{AreContentParts}
use Rattle.matroska_parts.specs.Openings.{opening_of, IsCrc32Of, passes, closing_of, AreDocParts}
use Rattle.matroska_parts.specs.RecordParts.{AreRecordParts}
use Rattle.matroska_parts.specs.declared.top_elements.TopElement.{TopElement}
use Rattle.matroska_parts.specs.declared.top_elements.TopElement.TheVariants as tops
use Rattle.matroska_parts.specs.declared.parts.Part.{Part}
use Rattle.matroska_parts.specs.declared.parts.Part.TheVariants as part
use Rattle.matroska_parts.specs.declared.parts.Crc32.{Crc32}
use Rattle.matroska_parts.specs.declared.parts.Crc32.TheVariants as crc

-- ---- the tracks

abbrev pub is_tracks : Kind → Bool
is_tracks (kind.Element head) = head.id == 0x1654AE6B
is_tracks _ = false

abbrev pub content_by : Kind → List ℕ → List ℕ
content_by (kind.Element head) bytes = drop head.length bytes
content_by _ bytes = []

-- where an element lies, and its content
pub record PlacedContent : Type 0 where
  pub place : ℕ
  pub content : List ℕ

-- the first Tracks among items that begin at this place
abbrev pub first_tracks : ℕ → List ItemValue → Option PlacedContent
first_tracks place [] = None
first_tracks place (item ∷ items) =
    if is_tracks item.kind then Some record { place = place; content = content_by item.kind item.bytes }
    else first_tracks (place + length item.bytes) items

-- a longer Tracks describes none
abbrev pub tracks_limit : ℕ
tracks_limit = 2 ^ 24

-- the tracks that blocks can name are these, by the content of a Tracks
abbrev pub AreNamedIn : List ℕ → List Track → Type 0
AreNamedIn content tracks =
    ((length content ≤ tracks_limit) × ((all : List Track) × AreTracksOf content all × (tracks ≡ named_tracks all)))
    ⊎ ((tracks_limit < length content) × (tracks ≡ []))

-- by the first Tracks, if there is one
abbrev pub AreTracksBy : Option PlacedContent → List Track → Type 0
AreTracksBy None tracks = tracks ≡ []
AreTracksBy (Some found) tracks = AreNamedIn found.content tracks

-- ---- the items

abbrev pub is_at : ℕ → Option PlacedContent → Bool
is_at place None = false
is_at place (Some found) = found.place == place

abbrev pub is_uncut : Crc32 → Bool
is_uncut crc.Cut = false
is_uncut _ = true

-- the records of the first Tracks, whose content begins at this place, if it is not cut
abbrev pub AreRecordPartsIf : (here vouched : Bool) → ℕ → List Track → List Part → Type 0
AreRecordPartsIf true vouched place tracks parts = AreRecordParts place vouched tracks parts
AreRecordPartsIf false vouched place tracks parts = parts ≡ []

-- The parts of an element of the top: its beginning, what its content has, what is said of all of it, its end.
pub record AreElementParts (first : Option PlacedContent) (tracks : List Track) (place : ℕ) (head : Head) (bytes : List ℕ) (parts : List Part) : Type 0 where
  pub element : TopElement
  pub known : top_element_of head.id ≡ Some element
  pub crc32 : Crc32
  pub crc32_is : IsCrc32Of head bytes crc32
  pub content : List Part
  pub content_is : AreContentParts head.id tracks (passes crc32) (place + head.length) (drop head.length bytes) content
  pub doc : List Part
  pub doc_is : AreDocParts element place (drop head.length bytes) doc
  pub records : List Part
  pub records_are : AreRecordPartsIf (is_at place first && is_uncut crc32) (passes crc32) (place + head.length) tracks records
  pub joined : parts ≡ part.Begin (opening_of place element head) ∷ (content ++ (doc ++ (records ++ part.End (closing_of place element head bytes crc32) ∷ [])))

abbrev pub AreItemPartsBy : Kind → Option PlacedContent → List Track → ℕ → List ℕ → List Part → Type 0
AreItemPartsBy (kind.Segment head) first tracks place bytes parts = parts ≡ part.Begin (opening_of place tops.Segment head) ∷ []
AreItemPartsBy (kind.Element head) first tracks place bytes parts = AreElementParts first tracks place head bytes parts
AreItemPartsBy (kind.Endless head) first tracks place bytes parts = AreElementParts first tracks place head bytes parts
AreItemPartsBy kind.Unknown first tracks place bytes parts = parts ≡ part.Unknown record { place = place; size = length bytes } ∷ []

-- the parts of items that begin at this place
abbrev pub AreItemParts : Option PlacedContent → List Track → ℕ → List ItemValue → List Part → Type 0
AreItemParts first tracks place [] parts = parts ≡ []
AreItemParts first tracks place (item ∷ items) parts =
    (own : List Part) × (more : List Part) × (parts ≡ own ++ more) × AreItemPartsBy item.kind first tracks place item.bytes own
    × AreItemParts first tracks (place + length item.bytes) items more

-- The tracks that a file's blocks can name, and its parts.
pub record AreFileParts (file : List ℕ) (tracks : List Track) (parts : List Part) : Type 0 where
  pub items : List ItemValue
  pub are_items : AreItems file items
  pub tracks_are : AreTracksBy (first_tracks 0 items) tracks
  pub parts_are : AreItemParts (first_tracks 0 items) tracks 0 items parts
