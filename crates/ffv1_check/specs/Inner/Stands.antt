-- How a check stands after some parts of a file.
use Rattle.std.specs.Prelude.{IsTrue, ℕ, ◌≡◌, ◌*◌, ◌<◌, ◌≤◌, false, List, ◌++◌, length, count_by, get_or, slice_get, ◌^◌, Option, Some, None, option_to_list}
use Rattle.std.specs.List.{list_any}
use Rattle.matroska.specs.declared.track.Track.{Track}
use Rattle.matroska_parts.specs.TopElements.{element_number}
use Rattle.matroska_parts.specs.declared.top_elements.TopElement.{TopElement}
use Rattle.matroska_parts.specs.declared.parts.Part.{Part}
use Rattle.ffv1_check.specs.declared.findings.Finding.{Finding}
use Rattle.ffv1_check.specs.declared.tops.Tops.{Tops}
use Rattle.ffv1_check.specs.declared.tops.Found.{Found}
use Rattle.ffv1_check.specs.declared.track_states.TrackState.{TrackState}
use Rattle.ffv1_check.specs.declared.report.TrackCount.{TrackCount}
use Rattle.ffv1_check.specs.declared.progress.Progress.{Progress}
use Rattle.ffv1_check.specs.Before.{begins_any, begins_ebml, first_segment, has_crc32, timestamp_after, is_block_of, last_time}
use Rattle.ffv1_check.specs.CheckedBytes.{checked_bytes}
use Rattle.ffv1_check.specs.PartFindings.{lines_of_parts}
use Rattle.ffv1_check.specs.declared.report.Reporter.{Reporter}
use Rattle.ffv1_check.specs.Reports.{is_checked_of, is_video}

-- at most two findings
abbrev pub found_list : Found → List Finding
found_list found = option_to_list found.first ++ option_to_list found.second

-- what is known of the elements of the top
pub record TopsStand (parts : List Part) (tops : Tops) : Type 0 where
  pub begun : tops.begun ≡ list_any begins_any parts
  pub ebml : tops.has_ebml ≡ list_any begins_ebml parts
  pub segment : tops.segment ≡ first_segment parts
  pub timestamp : tops.timestamp ≡ timestamp_after parts
  pub with_crc32 : (element : TopElement) → get_or tops.with_crc32 (element_number element) false ≡ list_any (has_crc32 element) parts

-- what is known of the blocks of the track of this place
pub record TrackStands (parts : List Part) (index : ℕ) (state : TrackState) : Type 0 where
  pub blocks : state.blocks ≡ count_by (is_block_of index) parts
  pub checked : state.checked ≡ count_by (is_checked_of index) parts
  pub last : state.last ≡ last_time index parts

abbrev pub no_state : TrackState
no_state = record { blocks = 0; checked = 0; last = None }

-- of those of all tracks
abbrev pub EachStands : List Part → List TrackState → Type 0
EachStands parts tracks = (index : ℕ) → index < length tracks → TrackStands parts index (get_or tracks index no_state)

-- how a check stands
pub record ProgressStands (parts : List Part) (progress : Progress) : Type 0 where
  pub tops : TopsStand parts progress.tops
  pub tracks : EachStands parts progress.tracks.items
  pub checked : progress.checked ≡ checked_bytes parts

-- one more can be counted
abbrev pub CanCountMore : TrackState → Type 0
CanCountMore state = (state.blocks < 2 ^ 63) × (state.checked < 2 ^ 63)

abbrev pub EachCanCountMore : List TrackState → Type 0
EachCanCountMore tracks = (index : ℕ) → index < length tracks → CanCountMore (get_or tracks index no_state)

-- ---- at the end

abbrev pub counted_in : Track → TrackState → TrackCount
counted_in track state = record { number = track.number; codec = track.codec; blocks = state.blocks; checked = state.checked }

-- each track's count is by its state
pub record AreCounted (tracks : List Track) (states : List TrackState) (counts : List TrackCount) : Type 0 where
  pub as_many : length counts ≡ length tracks
  pub each : (index : ℕ) (track : Track) → slice_get tracks index ≡ Some track → slice_get counts index ≡ Some (counted_in track (get_or states index no_state))

-- all blocks of a video track are checked
abbrev pub IsChecked : Track → Option TrackCount → Type 0
IsChecked track None = Unit {0}
IsChecked track (Some count) = IsTrue (is_video track) → count.checked ≡ count.blocks

-- What is reported after some parts, of blocks that can name so many tracks.
pub record ReporterStands (tracks : ℕ) (parts : List Part) (reporter : Reporter) : Type 0 where
  pub stands : ProgressStands parts reporter.progress
  pub many : length reporter.progress.tracks.items ≡ tracks
  pub few : reporter.progress.checked ≤ 2 ^ 64 * length parts
  pub lines : reporter.lines.items ≡ lines_of_parts parts
  pub taken' : reporter.taken ≡ length parts
