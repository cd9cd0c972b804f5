-- Lines as they are printed, computed.
use Rattle.std.proofs.Common.{◌≡◌, ℕ, ◌-◌, ℤ, pos, List, [], ◌∷◌, true, false, refl}
use Rattle.std.specs.Prelude.{codes, replicate, Some}
use Rattle.std.specs.Fmt.{digits}
use Rattle.ffv1_check.specs.Findings.{line_text}
use Rattle.ffv1_slice.specs.declared.chain.ChainEnd.TheVariants.{Whole}
use Rattle.matroska_parts.specs.RecordParts.{record_place}
use Rattle.matroska_parts.specs.declared.top_elements.TopElement.{TopElement}
use Rattle.matroska_parts.specs.declared.parts.Part.{Part}
use Rattle.matroska_parts.specs.declared.parts.Part.TheVariants as part
use Rattle.matroska_parts.specs.declared.parts.Crc32.{Crc32}
use Rattle.matroska_parts.specs.declared.parts.Crc32.TheVariants as crc
use Rattle.matroska_parts.specs.declared.parts.Standing.TheVariants as standing
use Rattle.matroska_parts.specs.declared.parts.Payload.{Payload}
use Rattle.matroska_parts.specs.declared.parts.Payload.TheVariants as payload
use Rattle.matroska.specs.declared.track.Track.{Track}
use Rattle.ffv1_check.specs.Reports.{file_lines, track_count_of}
use Rattle.ffv1_check.specs.CheckedBytes.{checked_bytes}
use Rattle.ffv1_check.specs.ReportLines.{codec_word, track_line, bytes_line}
use Rattle.ffv1_check.specs.declared.findings.Finding.TheVariants as found
use Rattle.matroska_parts.specs.declared.top_elements.TopElement.TheVariants as tops

cut_cluster : line_text record { place = 716; finding = found.Cut tops.Cluster 1037 } ≡ codes "at 716 cut Cluster 1037\n"
unfolding digits
cut_cluster = refl

wrong_record : line_text record { place = 353; finding = found.Record 1 } ≡ codes "at 353 record of track 1\n"
unfolding digits
wrong_record = refl

no_tracks : line_text record { place = 0; finding = found.NoTracks } ≡ codes "at 0 no tracks\n"
unfolding digits
no_tracks = refl

-- ---- parts of files

abbrev opening : TopElement → ℕ → ℕ → Part
opening element place end = part.Begin record { place = place; element = element; end = Some end }

abbrev closing : TopElement → Crc32 → ℕ → ℕ → Part
closing element crc32 place size = part.End record { place = place; element = element; size = size; content = size - 6; crc32 = crc32 }

-- a block of 348 bytes of track 1, of FFV1, in a Cluster whose CRC-32 fails
abbrev block : ℕ → ℤ → Payload → ℕ → Part
block place time payload passing = part.Block record {
  place = place;
  size = 348;
  standing = standing.Named record { index = 0; track = 1; is_ffv1 = true; time = time; payload = payload; passing = passing; is_vouched = false };
}

-- of two frames one link of the first fails, and the CRC-32 of their Cluster; the second has the time of the first
abbrev two_frames : List Part
two_frames =
    opening tops.Ebml 0 40 ∷ closing tops.Ebml crc.Absent 0 40 ∷ opening tops.Segment 40 1781 ∷ opening tops.Cluster 716 1753 ∷ part.Timestamp 0
    ∷ block 731 (pos 0) (payload.Frame record { links = 4; passing = 3; end = Whole }) 242 ∷ block 1079 (pos 0) (payload.Frame record { links = 4; passing = 4; end = Whole }) 293
    ∷ closing tops.Cluster crc.Fails 716 1037 ∷ []

two_frames_lines : file_lines 1 1781 two_frames
    ≡ record { place = 731; finding = found.Frame 1 1 record { links = 4; passing = 3; end = Whole } } ∷ record { place = 1079; finding = found.Time 1 }
    ∷ record { place = 716; finding = found.Crc32 tops.Cluster 1037 } ∷ []
two_frames_lines = refl

abbrev of_ffv1 : Track
of_ffv1 = record {
  number = 1;
  kind = 1;
  codec = record { ref_ptr = (0, 0); now = codes "V_FFV1" };
  private = record { ref_ptr = (0, 0); now = [] };
  private_at = 0;
  is_encoded = false;
  width = 48;
  height = 32;
}

-- a record of 42 bytes after a header of 40, in a Tracks whose content begins at 262
record_after_header : record_place 262 record of_ffv1 { private = record { ref_ptr = (0, 0); now = replicate 82 0 }; private_at = 91 } 42 ≡ 393
record_after_header = refl

two_frames_count : track_count_of of_ffv1 0 two_frames ≡ record { number = 1; codec = of_ffv1.codec; blocks = 2; checked = 1 }
two_frames_count = refl

-- four links that pass in one, and three in the other
two_frames_bytes : checked_bytes two_frames ≡ 535
two_frames_bytes = refl

-- what a Cluster whose CRC-32 passes has counts once, a record in a Tracks whose CRC-32 fails by itself
vouched_once : checked_bytes
    (part.Record record { place = 300; size = 42; track = 1; is_wrong = false; is_vouched = false } ∷ closing tops.Tracks crc.Fails 256 290
    ∷ part.Block record {
      place = 731;
      size = 348;
      standing = standing.Named record { index = 0; track = 1; is_ffv1 = true; time = pos 0; payload = payload.Flac true; passing = 341; is_vouched = true };
    }
    ∷ closing tops.Cluster crc.Passes 716 1037 ∷ [])
    ≡ 1073
vouched_once = refl

-- ---- the text of a report

plain_name : codec_word (codes "V_MS/VFW/FOURCC") ≡ codes "V_MS/VFW/FOURCC"
plain_name = refl

name_with_a_space : codec_word (codes "V_MS VFW") ≡ codes "-"
name_with_a_space = refl

no_name : codec_word [] ≡ codes "-"
no_name = refl

track_said : track_line record { number = 12; codec = of_ffv1.codec; blocks = 250; checked = 249 } ≡ codes "track 12 V_FFV1 blocks 250 checked 249\n"
unfolding digits
track_said = refl

bytes_said : bytes_line 30720 30660 ≡ codes "bytes 30720 checked 30660\n"
unfolding digits
bytes_said = refl

-- a file of no bytes
nothing_lines : file_lines 0 0 [] ≡ record { place = 0; finding = found.NoSegment } ∷ record { place = 0; finding = found.NoTracks } ∷ []
nothing_lines = refl

-- a Segment with no EBML before it, which ends elsewhere; a Cues before it; elements without a CRC-32 after one with it
astray : file_lines 1 90
    (opening tops.Cues 0 20 ∷ closing tops.Cues crc.Passes 0 20 ∷ opening tops.Segment 20 100 ∷ opening tops.Cues 32 60 ∷ closing tops.Cues crc.Absent 32 28 ∷ [])
    ≡ record { place = 0; finding = found.Misplaced tops.Cues } ∷ record { place = 20; finding = found.Misplaced tops.Segment }
    ∷ record { place = 32; finding = found.Bare tops.Cues 28 } ∷ record { place = 90; finding = found.End 100 } ∷ []
astray = refl
