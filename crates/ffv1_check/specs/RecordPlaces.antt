-- Where the records of a file stand (own).
use Rattle.std.specs.Prelude.{ℕ, ◌≡◌, List, Contains}
use Rattle.std.specs.List.{AllByRecursion}
use Rattle.ffv1_bits.specs.Parity.{AreBytes}
use Rattle.matroska.specs.Tracks.{HasRecord}
use Rattle.matroska.specs.declared.track.Track.{Track}
use Rattle.matroska_parts.specs.ItemParts.{AreFileParts}
use Rattle.matroska_parts.specs.declared.parts.Part.{Part}
use Rattle.matroska_parts.specs.declared.parts.Part.TheVariants as part
use Rattle.ffv1_check.specs.Spans.{bytes_at}

-- a part that is a record stands in the file, where it says and with the size that it says: it is that of the track that it says
abbrev pub IsRecordThere : List ℕ → List Track → Part → Type 0
IsRecordThere file tracks (part.Record found) =
    (track : Track) × Contains tracks track × (found.track ≡ track.number)
    × HasRecord track (bytes_at file record { place = found.place; size = found.size })
IsRecordThere file tracks _ = Unit {0}

-- ---- laws

-- Each record stands where a file's parts say.
abbrev pub RecordsAreThere : Type 0
RecordsAreThere = (file : List ℕ) (tracks : List Track) (parts : List Part) → AreBytes file → AreFileParts file tracks parts → AllByRecursion (IsRecordThere file tracks) parts
