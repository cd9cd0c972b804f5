-- The parts of an element of the top that is read from a source: those of each child, and what is said at its end.
use Rattle.std.specs.Prelude.{ℕ, ◌+◌, ◌≡◌, ◌&&◌, false, List, [], ◌∷◌, ◌++◌, length, Result, Ok, Err}
use Rattle.ffv1_devices.specs.Logs.{ReadLog}
use Rattle.ebml.specs.declared.head.Head.{Head}
use Rattle.ebml.specs.declared.items.Kind.TheVariants as kind
use Rattle.ebml_reader.specs.Reader.{Held, IsFault}
use Rattle.ebml_reader.specs.Starts.{EndsItem}
use Rattle.ebml_reader.specs.declared.fault.ReaderFault.{ReaderFault}
use Rattle.matroska.specs.declared.track.Track.{Track}
use Rattle.matroska_parts.specs.MasterParts.{IsMasterChild}
use Rattle.matroska_parts.specs.Openings.{passes}
use Rattle.matroska_parts.specs.ItemParts.{is_at, is_uncut, AreRecordPartsIf}
use Rattle.matroska_parts.specs.SourceParts.{KnownTracks, AddsItemParts}
use Rattle.matroska_parts.specs.declared.parts.Part.{Part}
use Rattle.matroska_parts.specs.declared.parts.Part.TheVariants as part
use Rattle.matroska_parts.specs.declared.parts.Closing.{Closing}

-- so many bytes of a file were passed: all that were read but what is held
abbrev pub IsPlacedAt : ℕ → Held → Type 0
IsPlacedAt place held = place + length held.bytes ≡ held.taken

-- the parts of a child of an element of the top were added, as they are if the CRC-32 of that doesn't pass
abbrev pub AddsChildParts : List Track → ℕ → List ℕ → (old new : List Part) → Type 0
AddsChildParts tracks place child old new = (more : List Part) × (new ≡ old ++ more) × IsMasterChild tracks false place child more

-- what is said at the end of an element was added, whose content begins at this place: the records, if it is the first Tracks, and the end
abbrev pub AddsEndParts : KnownTracks → ℕ → Closing → (old new : List Part) → Type 0
AddsEndParts known from closing old new =
    (records : List Part)
    × AreRecordPartsIf (is_at closing.place known.first && is_uncut closing.crc32) (passes closing.crc32) from known.tracks records
    × (new ≡ old ++ (records ++ part.End closing ∷ []))

-- what follows the start of an element was passed, up to its end, and its parts were added
abbrev pub PassesElement : KnownTracks → ℕ → Head → List ℕ → Result ℕ ReaderFault → (parts later : List Part) → Held → Held → ReadLog → ReadLog → Type 0
PassesElement known place head start (Ok long) parts later old new before after =
    (rest : List ℕ) × (long ≡ length rest) × EndsItem (kind.Element head) rest old new before after
    × AddsItemParts (kind.Element head) known.first known.tracks place (start ++ rest) parts later
PassesElement known place head start (Err fault) parts later old new before after = IsFault fault old.taken before after
