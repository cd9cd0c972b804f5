-- How the payload of a track's block stands with the checks that it has.
use Rattle.std.specs.Prelude.{ℕ, ◌^◌, ◌≤◌, ◌<◌, ◌≡◌, ◌≢◌, ◌↔◌, IsTrue, if◌then◌else◌, List, length, sum_by}
use Rattle.ffv1_slice.specs.Chain.{LinkValue}
use Rattle.ffv1_slice.specs.Walk.{links_of}
use Rattle.ffv1_scan.specs.Verdicts.{is_passing, IsVerdictOf}
use Rattle.matroska.specs.Blocks.{BlockValue}
use Rattle.matroska.specs.Tracks.{HasRecord, HasParities, IsFlac}
use Rattle.matroska.specs.Sound.{IsRightFlac}
use Rattle.matroska.specs.declared.track.Track.{Track}
use Rattle.matroska.specs.declared.block.Lacing.TheVariants.{Unlaced}
use Rattle.matroska_parts.specs.declared.parts.Payload.{Payload}
use Rattle.matroska_parts.specs.declared.parts.Payload.TheVariants as payload

-- longer frames of FFV1 and payloads of FLAC are not judged
abbrev pub frame_limit : ℕ
frame_limit = 2 ^ 30

abbrev pub flac_limit : ℕ
flac_limit = 2 ^ 24

-- of a track whose frames are judged by their parities: the payload is one frame, and this is how its bytes stand
abbrev pub IsFramePayload : BlockValue → Payload → Type 0
IsFramePayload block payload.Laced = block.lacing ≢ Unlaced
IsFramePayload block payload.Long = (block.lacing ≡ Unlaced) × (frame_limit < length block.payload)
IsFramePayload block (payload.Frame verdict) = (block.lacing ≡ Unlaced) × (length block.payload ≤ frame_limit) × IsVerdictOf block.payload verdict
IsFramePayload block (payload.Flac right) = ⊥
IsFramePayload block payload.Other = ⊥

-- of a track of FLAC
abbrev pub IsFlacPayload : BlockValue → Payload → Type 0
IsFlacPayload block payload.Laced = ⊥
IsFlacPayload block payload.Long = flac_limit < length block.payload
IsFlacPayload block (payload.Frame verdict) = ⊥
IsFlacPayload block (payload.Flac right) = (length block.payload ≤ flac_limit) × (IsTrue right ↔ IsRightFlac block.lacing block.payload)
IsFlacPayload block payload.Other = ⊥

-- How the payload of a track's block stands: by parities, as FLAC, or it has no checks.
pub record IsPayloadOf (track : Track) (block : BlockValue) (found : Payload) : Type 0 where
  pub frame : HasParities track → IsFramePayload block found
  pub flac : IsFlac track → IsFlacPayload block found
  pub other : (HasParities track → ⊥) → (IsFlac track → ⊥) → found ≡ payload.Other

-- how many bytes those of links have that pass
abbrev pub passing_size : List LinkValue → ℕ
passing_size links = sum_by (λ link. if is_passing link then length link.bytes else 0) links

-- so many bytes have the links of a frame that pass
abbrev pub HasPassingLinks : List ℕ → ℕ → Type 0
HasPassingLinks bytes size = size ≡ passing_size (links_of bytes)

-- so many bytes of a payload pass checks of their own: those of the links of a frame that pass, or all that are FLAC and right
abbrev pub HasPassing : Payload → List ℕ → ℕ → Type 0
HasPassing (payload.Frame verdict) bytes size = HasPassingLinks bytes size
HasPassing (payload.Flac right) bytes size = size ≡ (if right then length bytes else 0)
HasPassing _ bytes size = size ≡ 0

-- a track is of FFV1
abbrev pub IsFfv1 : Track → Type 0
IsFfv1 track = (record' : List ℕ) × HasRecord track record'
