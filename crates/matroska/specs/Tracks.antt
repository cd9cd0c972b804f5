-- Tracks (RFC 9559, section 5.1.4): what a TrackEntry says, and what is FFV1 and FLAC.
use Rattle.std.specs.Prelude.{ℕ, ◌≡◌, ◌≢◌, ◌<◌, ◌⊎◌, ◌↔◌, IsTrue, List, [], ◌∷◌, ◌++◌, length, min, drop, slice_range, codes, Option, Some, None, IsSome}
use Rattle.std.specs.List.{AllByRecursion}
use Rattle.ebml.specs.Contents.{PlacedBytes, AreContentsAt, OfLast, OfLastPlaced, unsigned_of}
use Rattle.ffv1_bits.specs.Parity.{RecordPassesParity}
use Rattle.ffv1_range.specs.Setup.{RecordingValue, IsRecordingOf}
use Rattle.matroska.specs.declared.track.Track.{Track}

-- the value of an Unsigned Integer Element; 0 where there is none
abbrev pub number_found : Option (List ℕ) → ℕ
number_found None = 0
number_found (Some content) = unsigned_of content

-- the bytes of an element; none where there is none
abbrev pub bytes_found : Option (List ℕ) → List ℕ
bytes_found None = []
bytes_found (Some content) = content

-- where they begin, as far as four octets tell it; 0 where there is none
abbrev pub place_found : Option PlacedBytes → ℕ
place_found None = 0
place_found (Some found) = min found.place 0xFFFFFFFF

-- The text of a String Element (RFC 8794, section 7.4): what stands before its first zero byte, or all of it.
pub record IsStringOf (content text : List ℕ) : Type 0 where
  pub no_zero : AllByRecursion (λ byte. byte ≢ 0) text
  pub ends : (content ≡ text) ⊎ ((rest : List ℕ) × (content ≡ text ++ 0 ∷ rest))

-- The track that the content of a TrackEntry at this place describes: of each field the last element counts, TrackNumber, TrackType, CodecID,
-- CodecPrivate and where that begins, ContentEncodings, and in Video PixelWidth and PixelHeight.
pub record IsTrackOf (place : ℕ) (entry : List ℕ) (track : Track) : Type 0 where
  pub number : OfLast 0xD7 entry (λ found. track.number ≡ number_found found)
  pub kind : OfLast 0x83 entry (λ found. track.kind ≡ number_found found)
  pub codec : OfLast 0x86 entry (λ found. IsStringOf (bytes_found found) track.codec.now)
  pub private : OfLast 0x63A2 entry (λ found. track.private.now ≡ bytes_found found)
  pub private_at : OfLastPlaced 0x63A2 place entry (λ found. track.private_at ≡ place_found found)
  pub encoded : OfLast 0x6D80 entry (λ found. IsTrue track.is_encoded ↔ IsSome found)
  pub width : OfLast 0xE0 entry (λ video. OfLast 0xB0 (bytes_found video) (λ found. track.width ≡ number_found found))
  pub height : OfLast 0xE0 entry (λ video. OfLast 0xBA (bytes_found video) (λ found. track.height ≡ number_found found))

-- each track is that of its TrackEntry
abbrev pub EachIsTrack : List PlacedBytes → List Track → Type 0
EachIsTrack [] [] = Unit {0}
EachIsTrack [] (track ∷ tracks) = ⊥
EachIsTrack (entry ∷ entries) [] = ⊥
EachIsTrack (entry ∷ entries) (track ∷ tracks) = IsTrackOf entry.place entry.bytes track × EachIsTrack entries tracks

-- The tracks that the content of a Tracks element describes: one for each TrackEntry, in order. Places are counted from where the content begins.
pub record AreTracksOf (content : List ℕ) (tracks : List Track) : Type 0 where
  pub entries : List PlacedBytes
  pub are_entries : AreContentsAt 0xAE 0 content entries
  pub each : EachIsTrack entries tracks

-- how many bytes a BITMAPINFOHEADER has
abbrev pub bitmap_header_length : ℕ
bitmap_header_length = 40

-- the compression of a BITMAPINFOHEADER is FFV1
abbrev pub IsFfv1Header : List ℕ → Type 0
IsFfv1Header bytes = slice_range bytes 16 20 ≡ codes "FFV1"

-- The track is of FFV1, and this is its Configuration Record: its CodecPrivate; or what follows the 40 bytes of a BITMAPINFOHEADER whose
-- compression is FFV1.
abbrev pub HasRecord : Track → List ℕ → Type 0
HasRecord track record' =
    ((track.codec.now ≡ codes "V_FFV1") × (record' ≡ track.private.now))
    ⊎ ((track.codec.now ≡ codes "V_MS/VFW/FOURCC") × IsFfv1Header track.private.now × (record' ≡ drop bitmap_header_length track.private.now))

-- its record is wrong: it has bytes, and fails its parity
abbrev pub IsRecordWrong : Track → Type 0
IsRecordWrong track = (record' : List ℕ) × HasRecord track record' × (0 < length record') × (RecordPassesParity record' → ⊥)

-- a record, for frames of this width and height, is one of version 3 that says that each slice has its parity
abbrev pub SaysParities : List ℕ → ℕ → ℕ → Type 0
SaysParities bytes width height = (recording : RecordingValue) × IsRecordingOf bytes width height recording × (recording.setup.ec ≡ 1)

-- A track's frames are judged by their parities: its record says that they have them, and nothing else was done to the frames.
abbrev pub HasParities : Track → Type 0
HasParities track =
    (record' : List ℕ) × HasRecord track record' × (IsTrue track.is_encoded → ⊥) × SaysParities record' track.width track.height

-- the track is of FLAC, and nothing else was done to its frames
abbrev pub IsFlac : Track → Type 0
IsFlac track = (track.codec.now ≡ codes "A_FLAC") × (IsTrue track.is_encoded → ⊥)

-- ---- laws

-- A track has one record at most.
abbrev pub RecordIsOne : Type 0
RecordIsOne = (track : Track) (a b : List ℕ) → HasRecord track a → HasRecord track b → a ≡ b
