-- What is wrong with a part of a file, by the parts before it (own).
use Rattle.std.specs.Prelude.{ℕ, ℤ, int_lt, ◌+◌, Bool, true, false, ◌||◌, not, if◌then◌else◌, List, [], ◌∷◌, ◌++◌, map, count_by, Option, Some, None, is_some}
use Rattle.std.specs.List.{list_any}
use Rattle.ffv1_scan.specs.Verdicts.{is_undamaged}
use Rattle.matroska.specs.NamedTracks.{by_those_before}
use Rattle.matroska_parts.specs.declared.top_elements.TopElement.{TopElement}
use Rattle.matroska_parts.specs.declared.top_elements.TopElement.TheVariants as tops
use Rattle.matroska_parts.specs.declared.parts.Part.{Part}
use Rattle.matroska_parts.specs.declared.parts.Part.TheVariants as part
use Rattle.matroska_parts.specs.declared.parts.Opening.{Opening}
use Rattle.matroska_parts.specs.declared.parts.Closing.{Closing}
use Rattle.matroska_parts.specs.declared.parts.Crc32.{Crc32}
use Rattle.matroska_parts.specs.declared.parts.Crc32.TheVariants as crc
use Rattle.matroska_parts.specs.declared.parts.Standing.{Standing}
use Rattle.matroska_parts.specs.declared.parts.Standing.TheVariants as standing
use Rattle.matroska_parts.specs.declared.parts.TrackBlock.{TrackBlock}
use Rattle.matroska_parts.specs.declared.parts.Payload.{Payload}
use Rattle.matroska_parts.specs.declared.parts.Payload.TheVariants as payload
use Rattle.ffv1_check.specs.declared.findings.Finding.{Finding}
use Rattle.ffv1_check.specs.declared.findings.Finding.TheVariants as found
use Rattle.ffv1_check.specs.declared.findings.Line.{Line}
use Rattle.ffv1_check.specs.Before.{begins_any, begins_ebml, first_segment, has_crc32, is_block_of, time_of, last_time}

-- an EBML that is not the first element; a Segment after another, or with no EBML before it; another element but Void with no Segment before it
abbrev pub is_misplaced : List Part → TopElement → Bool
is_misplaced before tops.Ebml = list_any begins_any before
is_misplaced before tops.Segment = is_some (first_segment before) || not (list_any begins_ebml before)
is_misplaced before tops.Void = false
is_misplaced before _ = not (is_some (first_segment before))

abbrev pub opening_findings : List Part → Opening → List Finding
opening_findings before opening =
    (if is_misplaced before opening.element then found.Misplaced opening.element ∷ [] else [])
    ++ (if is_some opening.end then [] else found.Endless opening.element ∷ [])

-- an element with no CRC-32 after one of its kind that had one
abbrev pub if_bare : Bool → Closing → List Finding
if_bare had closing = if had then found.Bare closing.element closing.size ∷ [] else []

abbrev pub closing_by : Crc32 → List Part → Closing → List Finding
closing_by crc.Cut before closing = found.Cut closing.element closing.size ∷ []
closing_by crc.Fails before closing = found.Crc32 closing.element closing.size ∷ []
closing_by crc.Passes before closing = []
closing_by crc.Absent before closing = if_bare (list_any (has_crc32 closing.element) before) closing

abbrev pub closing_findings : List Part → Closing → List Finding
closing_findings before closing = closing_by closing.crc32 before closing

-- a time is after the last one, if there was one
abbrev pub is_rising : Option ℤ → Option ℤ → Bool
is_rising last None = false
is_rising None (Some time) = true
is_rising (Some last) (Some time) = int_lt last time

-- a block of FFV1 has no time, or one that does not rise
abbrev pub time_findings : List Part → TrackBlock → List Finding
time_findings before block =
    if not block.is_ffv1 || is_rising (last_time block.index before) (time_of before block) then [] else found.Time block.track ∷ []

-- what is wrong with the payload of the block of this number
abbrev pub payload_findings : ℕ → ℕ → Payload → List Finding
payload_findings number track payload.Laced = found.Laced track ∷ []
payload_findings number track payload.Long = found.Long track ∷ []
payload_findings number track (payload.Frame verdict) = if is_undamaged verdict then [] else found.Frame number track verdict ∷ []
payload_findings number track (payload.Flac right) = if right then [] else found.Flac track ∷ []
payload_findings number track payload.Other = []

-- which block of its track it is, counted from 1
abbrev pub number_of_block : List Part → TrackBlock → ℕ
number_of_block before block = count_by (is_block_of block.index) before + 1

abbrev pub standing_findings : List Part → ℕ → Standing → List Finding
standing_findings before size standing.Short = found.Block size ∷ []
standing_findings before size (standing.Unnamed track) = found.Track track ∷ []
standing_findings before size (standing.Named block) =
    time_findings before block ++ payload_findings (number_of_block before block) block.track block.payload

-- findings that are at one place
abbrev pub lines_at : ℕ → List Finding → List Line
lines_at place findings = map (λ finding. record { place = place; finding = finding }) findings

-- where a part begins
abbrev pub place_of : Part → ℕ
place_of (part.Unknown span) = span.place
place_of (part.Begin opening) = opening.place
place_of (part.Timestamp timestamp) = 0
place_of (part.Block block) = block.place
place_of (part.Record record') = record'.place
place_of (part.NoMatroska place) = place
place_of (part.End closing) = closing.place

abbrev pub part_findings : List Part → Part → List Finding
part_findings before (part.Unknown span) = found.Unknown span.size ∷ []
part_findings before (part.Begin opening) = opening_findings before opening
part_findings before (part.Timestamp timestamp) = []
part_findings before (part.Block block) = standing_findings before block.size block.standing
part_findings before (part.Record record') = if record'.is_wrong then found.Record record'.track ∷ [] else []
part_findings before (part.NoMatroska place) = found.NoMatroska ∷ []
part_findings before (part.End closing) = closing_findings before closing

abbrev pub lines_of_part : List Part → Part → List Line
lines_of_part before part = lines_at (place_of part) (part_findings before part)

-- the lines of all parts, in order
abbrev pub lines_of_parts : List Part → List Line
lines_of_parts parts = by_those_before lines_of_part parts
