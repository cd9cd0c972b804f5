-- The report of a file, from what is known after its parts.
use Rattle.std.proofs.Common.{◌≡◌, ℕ, ◌<◌, Bool, List, [], ◌∷◌, ◌++◌, length, get_or, sym, ap, ◌∙◌, subst, arith}
use Rattle.std.specs.Prelude.{◌↔◌, IsTrue, slice_get, Option, Some}
use Rattle.std.proofs.lemmas.Option.{slice_get_within}
use Rattle.matroska.specs.declared.track.Track.{Track}
use Rattle.matroska.proofs.NamedSteps.{by_those_before-append}
use Rattle.matroska_parts.specs.declared.parts.Part.{Part}
use Rattle.matroska_parts.specs.declared.parts.Opening.{Opening}
use Rattle.ffv1_check.specs.declared.findings.Line.{Line}
use Rattle.ffv1_check.specs.declared.tops.Found.{Found}
use Rattle.ffv1_check.specs.declared.track_states.TrackState.{TrackState}
use Rattle.ffv1_check.specs.declared.progress.Progress.{Progress}
use Rattle.ffv1_check.specs.declared.report.Report.{Report}
use Rattle.ffv1_check.specs.declared.report.TrackCount.{TrackCount}
use Rattle.ffv1_check.specs.Before.{first_segment}
use Rattle.ffv1_check.specs.PartFindings.{lines_at, place_of, part_findings, lines_of_part, lines_of_parts}
use Rattle.ffv1_check.specs.Reports.{segment_findings, no_track_findings, file_lines, blocks_of, checked_of, track_count_of, IsReportOf}
use Rattle.ffv1_check.specs.Inner.Stands.{found_list, no_state, EachStands, ProgressStands, counted_in, AreCounted, IsChecked}

pub lines_more : (parts : List Part) (part : Part) (lines new : List Line) (place : ℕ) (found : Found) → lines ≡ lines_of_parts parts
    → new ≡ lines ++ lines_at place (found_list found) → place ≡ place_of part → found_list found ≡ part_findings parts part → new ≡ lines_of_parts (parts ++ part ∷ [])
lines_more parts part lines new place found so_far grown at is =
    grown ∙ ap (λ z. z ++ lines_at place (found_list found)) so_far ∙ ap (λ p. lines_of_parts parts ++ lines_at p (found_list found)) at
    ∙ ap (λ z. lines_of_parts parts ++ lines_at (place_of part) z) is ∙ sym (by_those_before-append lines_of_part parts part)

pub lines_end : (tracks size : ℕ) (parts : List Part) (lines new : List Line) (segment : Option Opening) (found : Found) → lines ≡ lines_of_parts parts
    → new ≡ lines ++ lines_at size (found_list found) → found_list found ≡ segment_findings size segment ++ no_track_findings tracks → segment ≡ first_segment parts
    → new ≡ file_lines tracks size parts
lines_end tracks size parts lines new segment found so_far grown is at =
    grown ∙ ap (λ z. z ++ lines_at size (found_list found)) so_far ∙ ap (λ z. lines_of_parts parts ++ lines_at size z) is
    ∙ ap (λ z. lines_of_parts parts ++ lines_at size (segment_findings size z ++ no_track_findings tracks)) at

abbrev count_with : Track → (blocks checked : ℕ) → TrackCount
count_with track blocks checked = record { number = track.number; codec = track.codec; blocks = blocks; checked = checked }

count_is : (track : Track) (state : TrackState) (blocks checked : ℕ) → state.blocks ≡ blocks → state.checked ≡ checked
    → counted_in track state ≡ count_with track blocks checked
count_is track state blocks checked b c = ap (λ z. count_with track z state.checked) b ∙ ap (count_with track blocks) c

count_there : (parts : List Part) (tracks : List Track) (states : List TrackState) (counts : List TrackCount) → EachStands parts states
    → length states ≡ length tracks → AreCounted tracks states counts → (index : ℕ) (track : Track) → slice_get tracks index ≡ Some track
    → slice_get counts index ≡ Some (track_count_of track index parts)
count_there parts tracks states counts each many are index track at =
    let within : index < length tracks = slice_get_within tracks index track at in
    let stands = each index (omega (arith, within, many)) in
    are.each index track at
    ∙ ap (λ (z : TrackCount). Some z) (count_is track (get_or states index no_state) (blocks_of index parts) (checked_of index parts) stands.blocks stands.checked)

-- whether a file with these lines and counts is whole
abbrev pub IsWholeBy : List Track → Bool → List Line → List TrackCount → Type 0
IsWholeBy tracks whole lines counts =
    IsTrue whole ↔ (lines ≡ []) × ((index : ℕ) (track : Track) → slice_get tracks index ≡ Some track → IsChecked track (slice_get counts index))

pub report_there : (tracks : List Track) (size : ℕ) (parts : List Part) (progress : Progress) (report : Report) → ProgressStands parts progress
    → length progress.tracks.items ≡ length tracks → report.lines.items ≡ file_lines (length tracks) size parts
    → AreCounted tracks progress.tracks.items report.tracks.items → report.size ≡ size → report.checked ≡ progress.checked
    → IsWholeBy tracks report.is_whole report.lines.items report.tracks.items
    → IsReportOf tracks size parts report
report_there tracks size parts progress report stands counted lines counts sized checked whole =
    let there = count_there parts tracks progress.tracks.items report.tracks.items stands.tracks counted counts in
    record {
      lines = lines;
      tracks_are = counts.as_many;
      counts = there;
      size_is = sized;
      bytes = checked ∙ stands.checked;
      whole = (
        λ t. let is = whole.0 t in record {
          no_line = sym lines ∙ is.0;
          checked = λ index track at video. subst (IsChecked track) (there index track at) (is.1 index track at) video;
        },
        λ is. whole.1 (
          lines ∙ is.no_line,
          λ index track at. subst (IsChecked track) (sym (there index track at)) (λ video. is.checked index track at video),
        ),
      );
    }
