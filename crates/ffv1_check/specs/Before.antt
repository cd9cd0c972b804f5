-- What stands before a part of a file: elements that began, the Timestamp of a Cluster, the blocks of a track and their times.
use Rattle.std.specs.Prelude.{ℕ, ℤ, pos, ◌+ℤ◌, ◌==◌, Bool, true, false, ◌&&◌, if◌then◌else◌, List, [], ◌∷◌, Option, Some, None, option_map, option_to_list}
use Rattle.std.specs.List.{fold}
use Rattle.ebml.specs.Contents.{last_among}
use Rattle.matroska.specs.NamedTracks.{by_those_before}
use Rattle.matroska_parts.specs.TopElements.{element_number}
use Rattle.matroska_parts.specs.declared.top_elements.TopElement.{TopElement}
use Rattle.matroska_parts.specs.declared.top_elements.TopElement.TheVariants as tops
use Rattle.matroska_parts.specs.declared.parts.Part.{Part}
use Rattle.matroska_parts.specs.declared.parts.Part.TheVariants as part
use Rattle.matroska_parts.specs.declared.parts.Opening.{Opening}
use Rattle.matroska_parts.specs.declared.parts.Crc32.{Crc32}
use Rattle.matroska_parts.specs.declared.parts.Crc32.TheVariants as crc
use Rattle.matroska_parts.specs.declared.parts.Standing.{Standing}
use Rattle.matroska_parts.specs.declared.parts.Standing.TheVariants as standing
use Rattle.matroska_parts.specs.declared.parts.TrackBlock.{TrackBlock}

-- ---- elements of the top

-- an element begins here
abbrev pub begins_any : Part → Bool
begins_any (part.Begin opening) = true
begins_any _ = false

abbrev pub is_ebml : TopElement → Bool
is_ebml tops.Ebml = true
is_ebml _ = false

-- an EBML begins here
abbrev pub begins_ebml : Part → Bool
begins_ebml (part.Begin opening) = is_ebml opening.element
begins_ebml _ = false

abbrev pub if_segment : Opening → TopElement → Option Opening
if_segment opening tops.Segment = Some opening
if_segment opening _ = None

-- where a Segment begins
abbrev pub segment_in : Part → Option Opening
segment_in (part.Begin opening) = if_segment opening opening.element
segment_in _ = None

-- the first that is there
abbrev pub first_of : {X : Type 0} → Option X → Option X → Option X
first_of None other = other
first_of (Some x) other = Some x

abbrev pub first_segment : List Part → Option Opening
first_segment [] = None
first_segment (part ∷ parts) = first_of (segment_in part) (first_segment parts)

abbrev pub has_one : Crc32 → Bool
has_one crc.Cut = false
has_one crc.Absent = false
has_one crc.Passes = true
has_one crc.Fails = true

-- an element of this kind, with a CRC-32, ends here
abbrev pub has_crc32 : TopElement → Part → Bool
has_crc32 element (part.End closing) = has_one closing.crc32 && element_number closing.element == element_number element
has_crc32 element _ = false

-- ---- times

abbrev pub stamp : Option ℕ → Part → Option ℕ
stamp found (part.Begin opening) = None
stamp found (part.Timestamp timestamp) = Some timestamp
stamp found _ = found

-- the Timestamp of the Cluster that is read: the last one since an element began
abbrev pub timestamp_after : List Part → Option ℕ
timestamp_after parts = fold stamp None parts

-- the time of a block, if its Cluster has a Timestamp before it
abbrev pub time_of : List Part → TrackBlock → Option ℤ
time_of before block = option_map (λ timestamp. pos timestamp +ℤ block.time) (timestamp_after before)

-- ---- the blocks of a track

-- a block of the track of this place among those that blocks can name
abbrev pub is_of : ℕ → Standing → Bool
is_of index (standing.Named block) = block.index == index
is_of index _ = false

abbrev pub is_block_of : ℕ → Part → Bool
is_block_of index (part.Block block) = is_of index block.standing
is_block_of index _ = false

-- its time, where it is a block of the track, and has one
abbrev pub time_in : ℕ → List Part → Standing → List ℤ
time_in index before (standing.Named block) = if block.index == index then option_to_list (time_of before block) else []
time_in index before _ = []

abbrev pub time_at : ℕ → List Part → Part → List ℤ
time_at index before (part.Block block) = time_in index before block.standing
time_at index before _ = []

-- the last time that a block of the track had
abbrev pub last_time : ℕ → List Part → Option ℤ
last_time index parts = last_among (by_those_before (time_at index) parts)
