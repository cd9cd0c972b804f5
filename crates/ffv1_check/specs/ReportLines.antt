-- The text of a whole report (own): a line for each thing that is wrong, one for each track, the count of bytes, and the verdict.
use Rattle.std.specs.Prelude.{ℕ, Bool, ◌&&◌, ◌++◌, if◌then◌else◌, List, length, nat_lt, nat_le, codes}
use Rattle.std.specs.Char.{is_ascii_graphic}
use Rattle.std.specs.Fmt.{decimal}
use Rattle.std.specs.List.{flat_map, list_all}
use Rattle.ffv1_check.specs.declared.report.Report.{Report}
use Rattle.ffv1_check.specs.declared.report.TrackCount.{TrackCount}
use Rattle.ffv1_check.specs.Findings.{line_text}

-- a name of 1 to 64 bytes, each of `!` to `~`
abbrev pub is_plain_name : List ℕ → Bool
is_plain_name name = nat_lt 0 (length name) && (nat_le (length name) 64 && list_all is_ascii_graphic name)

abbrev pub codec_word : List ℕ → List ℕ
codec_word name = if is_plain_name name then name else codes "-"

abbrev pub track_line : TrackCount → List ℕ
track_line count =
    codes "track " ++ decimal count.number ++ codes " " ++ codec_word count.codec.now ++ codes " blocks " ++ decimal count.blocks ++ codes " checked "
    ++ decimal count.checked ++ codes "\n"

abbrev pub bytes_line : (size checked : ℕ) → List ℕ
bytes_line size checked = codes "bytes " ++ decimal size ++ codes " checked " ++ decimal checked ++ codes "\n"

abbrev pub whole_line : Bool → List ℕ
whole_line whole = if whole then codes "whole\n" else codes "not whole\n"

abbrev pub check_text : Report → List ℕ
check_text report =
    flat_map line_text report.lines.items ++ (flat_map track_line report.tracks.items ++ (bytes_line report.size report.checked ++ whole_line report.is_whole))
