-- The Configuration Records of a file's tracks as parts of it.
use Rattle.std.specs.Prelude.{ℕ, ◌+◌, ◌-◌, ◌<◌, ◌≡◌, ◌⊎◌, ◌↔◌, IsTrue, Bool, List, [], ◌∷◌, ◌++◌, length}
use Rattle.matroska.specs.Tracks.{HasRecord, IsRecordWrong}
use Rattle.matroska.specs.declared.track.Track.{Track}
use Rattle.matroska_parts.specs.declared.parts.Part.{Part}
use Rattle.matroska_parts.specs.declared.parts.Part.TheVariants as part
use Rattle.matroska_parts.specs.declared.parts.RecordPart.{RecordPart}

-- where a track's record of so many bytes begins, if the content of its Tracks does at this place: it ends with its CodecPrivate
abbrev pub record_place : (place : ℕ) → Track → (size : ℕ) → ℕ
record_place place track size = place + track.private_at + (length track.private.now - size)

-- The record of a track, which has bytes, in the Tracks whose content begins at this place, and whose CRC-32 passes or not.
pub record IsRecordPart (place : ℕ) (vouched : Bool) (track : Track) (found : RecordPart) : Type 0 where
  pub bytes : List ℕ
  pub has : HasRecord track bytes
  pub some : 0 < length bytes
  pub at : found.place ≡ record_place place track (length bytes)
  pub size : found.size ≡ length bytes
  pub named : found.track ≡ track.number
  pub wrong : IsTrue found.is_wrong ↔ IsRecordWrong track
  pub vouched_is : found.is_vouched ≡ vouched

-- a track has one such part, or none if it has no record, or an empty one
abbrev pub AreRecordPartsOf : ℕ → Bool → Track → List Part → Type 0
AreRecordPartsOf place vouched track parts =
    ((found : RecordPart) × IsRecordPart place vouched track found × (parts ≡ part.Record found ∷ []))
    ⊎ (((bytes : List ℕ) → HasRecord track bytes → bytes ≡ []) × (parts ≡ []))

-- those of all tracks
abbrev pub AreRecordParts : ℕ → Bool → List Track → List Part → Type 0
AreRecordParts place vouched [] parts = parts ≡ []
AreRecordParts place vouched (track ∷ tracks) parts =
    (own : List Part) × (more : List Part) × (parts ≡ own ++ more) × AreRecordPartsOf place vouched track own × AreRecordParts place vouched tracks more
