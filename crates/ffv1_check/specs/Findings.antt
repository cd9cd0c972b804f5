-- What a check finds wrong in a file, and the line that reports it (own).
use Rattle.std.specs.Prelude.{ℕ, List, ◌++◌, codes}
use Rattle.std.specs.Fmt.{decimal}
use Rattle.ffv1_scan.specs.Verdicts.{end_words}
use Rattle.matroska_parts.specs.TopElements.{name_of}
use Rattle.ffv1_check.specs.declared.findings.Finding.{Finding}
use Rattle.ffv1_check.specs.declared.findings.Finding.TheVariants as found
use Rattle.ffv1_check.specs.declared.findings.Line.{Line}

-- the words of a finding, with the line feed after them
abbrev pub finding_text : Finding → List ℕ
finding_text (found.Unknown size) = codes "unknown " ++ decimal size ++ codes "\n"
finding_text (found.Misplaced element) = codes "misplaced " ++ name_of element ++ codes "\n"
finding_text (found.Endless element) = codes "endless " ++ name_of element ++ codes "\n"
finding_text (found.Cut element size) = codes "cut " ++ name_of element ++ codes " " ++ decimal size ++ codes "\n"
finding_text found.NoMatroska = codes "no Matroska\n"
finding_text (found.Crc32 element size) = codes "crc32 " ++ name_of element ++ codes " " ++ decimal size ++ codes "\n"
finding_text (found.Bare element size) = codes "bare " ++ name_of element ++ codes " " ++ decimal size ++ codes "\n"
finding_text (found.Record track) = codes "record of track " ++ decimal track ++ codes "\n"
finding_text (found.Block size) = codes "block " ++ decimal size ++ codes "\n"
finding_text (found.Track track) = codes "track " ++ decimal track ++ codes "\n"
finding_text (found.Time track) = codes "time of track " ++ decimal track ++ codes "\n"
finding_text (found.Laced track) = codes "laced track " ++ decimal track ++ codes "\n"
finding_text (found.Frame number track verdict) =
    codes "frame " ++ decimal number ++ codes " of track " ++ decimal track ++ codes " links " ++ decimal verdict.links ++ codes " pass "
    ++ decimal verdict.passing ++ end_words verdict.end
finding_text (found.Flac track) = codes "flac of track " ++ decimal track ++ codes "\n"
finding_text (found.Long track) = codes "long frame of track " ++ decimal track ++ codes "\n"
finding_text found.NoSegment = codes "no Segment\n"
finding_text (found.End end) = codes "end " ++ decimal end ++ codes "\n"
finding_text found.NoTracks = codes "no tracks\n"

-- the line of a finding: its place, and its words
abbrev pub line_text : Line → List ℕ
line_text line = codes "at " ++ decimal line.place ++ codes " " ++ finding_text line.finding
