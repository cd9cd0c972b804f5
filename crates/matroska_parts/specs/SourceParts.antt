-- The parts of a file that is read from sources: its first Tracks is looked for in one, and the parts of its items are reported of another.
use Rattle.std.specs.Prelude.{ℕ, ◌+◌, ◌^◌, ◌<◌, ◌≡◌, ◌≢◌, ◌⊎◌, List, ◌++◌, length, Option, option_map, IsSome, Result, Ok, Err}
use Rattle.std.specs.Io.KnownBytes.{IsAtEnd}
use Rattle.ffv1_bits.specs.Parity.{AreBytes}
use Rattle.ffv1_devices.specs.Logs.{ReadLog, Reads}
use Rattle.ebml.specs.Head.{HasHead}
use Rattle.ebml.specs.Items.{ItemValue, AreItems}
use Rattle.ebml.specs.declared.items.Kind.{Kind}
use Rattle.ebml.specs.declared.items.Kind.TheVariants as kind
use Rattle.ebml_reader.specs.Reader.{IsFault}
use Rattle.ebml_reader.specs.declared.fault.ReaderFault.{ReaderFault}
use Rattle.ebml_reader.specs.declared.settled.FoundItem.{FoundItem}
use Rattle.matroska.specs.declared.track.Track.{Track}
use Rattle.matroska_parts.specs.TopElements.{top_element_of}
use Rattle.matroska_parts.specs.ItemParts.{PlacedContent, first_tracks, AreItemPartsBy}
use Rattle.matroska_parts.specs.declared.tracks_search.FoundTracks.{FoundTracks}
use Rattle.matroska_parts.specs.declared.parts.Part.{Part}

-- ---- the first Tracks

abbrev pub found_in : FoundTracks → Option PlacedContent
found_in found = option_map (λ place. record { place = place; content = found.content.items }) found.place

-- this is the first Tracks of a file, or it has none
abbrev pub IsFirstTracksOf : Option PlacedContent → List ℕ → Type 0
IsFirstTracksOf found file = (items : List ItemValue) → AreBytes file → AreItems file items → found ≡ first_tracks 0 items

-- These bytes were read: whatever follows them, it is the first Tracks of the file; or the source has ended, and it is that of these bytes.
pub record FindsTracks (found : FoundTracks) (old new : ReadLog) : Type 0 where
  pub read : List ℕ
  pub reads : Reads old new read
  pub is : ((more : List ℕ) → IsFirstTracksOf (found_in found) (read ++ more)) ⊎ (IsAtEnd new.remaining × IsFirstTracksOf (found_in found) read)

abbrev pub FindsTracksIn : Result FoundTracks ReaderFault → ReadLog → ReadLog → Type 0
FindsTracksIn (Ok found) old new = FindsTracks found old new
FindsTracksIn (Err fault) old new = IsFault fault 0 old new

-- ---- the items

-- an item's head begins it, and is one of the top
abbrev pub HasItsHead : Kind → List ℕ → Type 0
HasItsHead (kind.Segment head) bytes = HasHead bytes head
HasItsHead (kind.Element head) bytes = HasHead bytes head × IsSome (top_element_of head.id)
HasItsHead (kind.Endless head) bytes = HasHead bytes head × IsSome (top_element_of head.id)
HasItsHead kind.Unknown bytes = Unit {0}

-- An item at a place as a reader gives it: all bytes that it has, of which those of an unknown one are not kept.
pub record IsGivenAt (place : ℕ) (item : FoundItem) (kept all : List ℕ) : Type 0 where
  pub long : item.length ≡ length all
  pub same : item.kind ≢ kind.Unknown → kept ≡ all
  pub headed : HasItsHead item.kind all
  pub room : place + length all < 2 ^ 63

-- parts like these of an item were added to others
abbrev pub AddsItemParts : Kind → Option PlacedContent → List Track → ℕ → List ℕ → (old new : List Part) → Type 0
AddsItemParts kind first tracks place bytes old new = (more : List Part) × (new ≡ old ++ more) × AreItemPartsBy kind first tracks place bytes more

-- the first Tracks of a file, and the tracks that blocks can name by it
pub record KnownTracks : Type 0 where
  pub first : Option PlacedContent
  pub tracks : List Track
