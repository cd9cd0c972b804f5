-- What a check reports of a whole file, by its parts (own).
use Rattle.std.specs.Prelude.{ℕ, ◌≡◌, ◌==◌, Bool, false, ◌&&◌, if◌then◌else◌, List, [], ◌∷◌, ◌++◌, length, count_by, slice_get, IsTrue, ◌↔◌, Option, Some, None}
use Rattle.ffv1_scan.specs.Verdicts.{is_undamaged}
use Rattle.matroska.specs.declared.track.Track.{Track}
use Rattle.matroska_parts.specs.declared.parts.Part.{Part}
use Rattle.matroska_parts.specs.declared.parts.Part.TheVariants as part
use Rattle.matroska_parts.specs.declared.parts.Opening.{Opening}
use Rattle.matroska_parts.specs.declared.parts.Standing.{Standing}
use Rattle.matroska_parts.specs.declared.parts.Standing.TheVariants as standing
use Rattle.matroska_parts.specs.declared.parts.Payload.{Payload}
use Rattle.matroska_parts.specs.declared.parts.Payload.TheVariants as payload
use Rattle.ffv1_check.specs.declared.findings.Finding.{Finding}
use Rattle.ffv1_check.specs.declared.findings.Finding.TheVariants as found
use Rattle.ffv1_check.specs.declared.findings.Line.{Line}
use Rattle.ffv1_check.specs.declared.report.Report.{Report}
use Rattle.ffv1_check.specs.declared.report.TrackCount.{TrackCount}
use Rattle.ffv1_check.specs.Before.{first_segment, is_block_of}
use Rattle.ffv1_check.specs.PartFindings.{lines_at, lines_of_parts}
use Rattle.ffv1_check.specs.CheckedBytes.{checked_bytes}

-- ---- the end of the file

abbrev pub end_findings : ℕ → Option ℕ → List Finding
end_findings size None = []
end_findings size (Some end) = if end == size then [] else found.End end ∷ []

-- the file has no Segment, or its first one ends elsewhere
abbrev pub segment_findings : ℕ → Option Opening → List Finding
segment_findings size None = found.NoSegment ∷ []
segment_findings size (Some opening) = end_findings size opening.end

abbrev pub no_track_findings : ℕ → List Finding
no_track_findings tracks = if tracks == 0 then found.NoTracks ∷ [] else []

-- all lines of a file of this size, which describes so many tracks
abbrev pub file_lines : (tracks size : ℕ) → List Part → List Line
file_lines tracks size parts =
    lines_of_parts parts ++ lines_at size (segment_findings size (first_segment parts) ++ no_track_findings tracks)

-- ---- blocks

-- the payload's own checks pass; or it has none, and the CRC-32 of its Cluster passes
abbrev pub is_checked : Bool → Payload → Bool
is_checked vouched payload.Laced = false
is_checked vouched payload.Long = false
is_checked vouched (payload.Frame verdict) = is_undamaged verdict
is_checked vouched (payload.Flac right) = right
is_checked vouched payload.Other = vouched

abbrev pub is_checked_in : ℕ → Standing → Bool
is_checked_in index (standing.Named block) = block.index == index && is_checked block.is_vouched block.payload
is_checked_in index _ = false

-- a block of the track of this place that is checked
abbrev pub is_checked_of : ℕ → Part → Bool
is_checked_of index (part.Block block) = is_checked_in index block.standing
is_checked_of index _ = false

-- how many blocks the track of this place has, and how many of them are checked
abbrev pub blocks_of : ℕ → List Part → ℕ
blocks_of index parts = count_by (is_block_of index) parts

abbrev pub checked_of : ℕ → List Part → ℕ
checked_of index parts = count_by (is_checked_of index) parts

abbrev pub track_count_of : Track → ℕ → List Part → TrackCount
track_count_of track index parts = record {
  number = track.number;
  codec = track.codec;
  blocks = blocks_of index parts;
  checked = checked_of index parts;
}

-- ---- the verdict

abbrev pub is_video : Track → Bool
is_video track = track.kind == 1

-- A file is whole: it has no line, and each block of a video track is checked.
pub record IsWhole (tracks : List Track) (size : ℕ) (parts : List Part) : Type 0 where
  pub no_line : file_lines (length tracks) size parts ≡ []
  pub checked : (index : ℕ) (track : Track) → slice_get tracks index ≡ Some track → IsTrue (is_video track) → checked_of index parts ≡ blocks_of index parts

-- what a check reports of a file of this size, with these tracks and parts
pub record IsReportOf (tracks : List Track) (size : ℕ) (parts : List Part) (report : Report) : Type 0 where
  pub lines : report.lines.items ≡ file_lines (length tracks) size parts
  pub tracks_are : length report.tracks.items ≡ length tracks
  pub counts : (index : ℕ) (track : Track) → slice_get tracks index ≡ Some track → slice_get report.tracks.items index ≡ Some (track_count_of track index parts)
  pub size_is : report.size ≡ size
  pub bytes : report.checked ≡ checked_bytes parts
  pub whole : IsTrue report.is_whole ↔ IsWhole tracks size parts
