-- Blocks as parts of a file (RFC 9559, section 10), by the tracks that blocks can name.
use Rattle.std.specs.Prelude.{ℕ, ◌≡◌, ◌≢◌, ◌↔◌, IsTrue, Bool, List, length, slice_get, Some}
use Rattle.std.specs.List.{AllByRecursion}
use Rattle.matroska.specs.Blocks.{BlockValue, IsBlock}
use Rattle.matroska.specs.declared.track.Track.{Track}
use Rattle.matroska_parts.specs.declared.parts.BlockPart.{BlockPart}
use Rattle.matroska_parts.specs.declared.parts.TrackBlock.{TrackBlock}
use Rattle.matroska_parts.specs.declared.parts.Standing.{Standing}
use Rattle.matroska_parts.specs.declared.parts.Standing.TheVariants as standing
use Rattle.matroska_parts.specs.Payloads.{IsPayloadOf, HasPassing, IsFfv1}

-- A block of one of the tracks.
pub record IsTrackBlock (tracks : List Track) (vouched : Bool) (block : BlockValue) (found : TrackBlock) : Type 0 where
  pub track : Track
  pub at : slice_get tracks found.index ≡ Some track
  pub number : track.number ≡ block.track
  pub named : found.track ≡ block.track
  pub ffv1 : IsTrue found.is_ffv1 ↔ IsFfv1 track
  pub time : found.time ≡ block.time
  pub payload : IsPayloadOf track block found.payload
  pub passing : HasPassing found.payload block.payload found.passing
  pub vouched_is : found.is_vouched ≡ vouched

-- what the content of a SimpleBlock or a Block is, in a Cluster whose CRC-32 passes or not
abbrev pub IsStanding : List Track → Bool → List ℕ → Standing → Type 0
IsStanding tracks vouched content standing.Short = (block : BlockValue) → IsBlock content block → ⊥
IsStanding tracks vouched content (standing.Unnamed track) =
    (block : BlockValue) × IsBlock content block × (track ≡ block.track) × AllByRecursion (λ other. other.number ≢ block.track) tracks
IsStanding tracks vouched content (standing.Named found) = (block : BlockValue) × IsBlock content block × IsTrackBlock tracks vouched block found

-- The part that a SimpleBlock or a Block at this place is.
pub record IsBlockPart (tracks : List Track) (vouched : Bool) (place : ℕ) (element content : List ℕ) (found : BlockPart) : Type 0 where
  pub at : found.place ≡ place
  pub size : found.size ≡ length element
  pub standing : IsStanding tracks vouched content found.standing
