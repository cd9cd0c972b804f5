-- The header of a slice of any recording of version 3 (RFC 9043, sections 4.5 and 4.6), and how the slice goes on after it.
use Rattle.std.specs.Prelude.{◌≡◌, ◌≢◌, ℕ, ◌+◌, ◌<◌, ◌≤◌, Bool, List, [], ◌∷◌, ◌++◌, length, Option, is_some, Result, Ok, Err, slice_index, nat_lt, nat_le, ◌==◌, ◌&&◌, if◌then◌else◌}
use Rattle.std.specs.List.{All, list_all}
use Rattle.ffv1_range.specs.Results.{◌>>>◌}
use Rattle.ffv1_range.specs.Transitions.{standard_transitions}
use Rattle.ffv1_range.specs.Coding.{Coder, Mode, sentinel_mode}
use Rattle.ffv1_range.specs.Setup.{RecordingValue}
use Rattle.ffv1_range.specs.Header.{IsHeaderOf, BeginAt, header_read, codes_read}
use Rattle.ffv1_range.specs.declared.scope.Scope.TheVariants.{Version3}
use Rattle.ffv1_range.specs.declared.head.SliceHeader.{SliceHeader}
use Rattle.ffv1_range.specs.declared.head.SliceStart.{SliceStart}
use Rattle.ffv1_range.specs.declared.head.SliceStart.TheVariants.{Codes, Samples}
use Rattle.ffv1_range.specs.declared.head.HeadFault.{HeadFault}
use Rattle.ffv1_range.specs.declared.head.HeadFault.TheVariants.{OutsideGrid, TableIndex}

-- A slice with Golomb-Rice codes is read by the default table, and nothing follows its content. Another is read by the record's
-- transitions, and one zero byte follows its content (own).
abbrev pub slice_mode : RecordingValue → Mode
slice_mode r = sentinel_mode (if r.coder == 0 then standard_transitions else r.transitions)

abbrev pub slice_bytes : RecordingValue → List ℕ → List ℕ
slice_bytes r content = if r.coder == 0 then content else content ++ 0 ∷ []

-- The fields: slice_x, slice_y, slice_width - 1, slice_height - 1, quant_table_set_index twice, with an extra plane three times,
-- picture_structure, sar_num, sar_den.
abbrev pub field_count : Bool → ℕ
field_count has_alpha = if has_alpha then 10 else 9

-- each quant_table_set_index
abbrev pub table_indexes : Bool → List ℕ → List ℕ
table_indexes has_alpha fields =
    slice_index fields 4 ∷ slice_index fields 5 ∷ (if has_alpha then slice_index fields 6 ∷ [] else [])

-- what the fields say; a third table index that isn't coded is 0
abbrev pub slice_header_with : Bool → Option Bool → List ℕ → SliceHeader
slice_header_with has_alpha key fields =
    record {
      x = slice_index fields 0;
      y = slice_index fields 1;
      w = slice_index fields 2 + 1;
      h = slice_index fields 3 + 1;
      tables = slice_index fields 4 ∷ slice_index fields 5 ∷ (if has_alpha then slice_index fields 6 else 0) ∷ [];
      picture_structure = slice_index fields (if has_alpha then 7 else 6);
      sar_num = slice_index fields (if has_alpha then 8 else 7);
      sar_den = slice_index fields (if has_alpha then 9 else 8);
      key = key;
    }

-- All tiles of the slice are of the grid, and each table set that it names is the record's.
pub record FitsRecording (r : RecordingValue) (fields : List ℕ) : Type 0 where
  pub columns : slice_index fields 0 + (slice_index fields 2 + 1) ≤ r.setup.across
  pub rows : slice_index fields 1 + (slice_index fields 3 + 1) ≤ r.setup.down
  pub tables : All (λ table. table < length r.setup.sets) (table_indexes r.has_alpha fields)

-- The codes begin at a place of the content; or samples follow at once in the decoder that read the header.
abbrev pub FollowsHeader : RecordingValue → List ℕ → Coder → SliceStart → Type 0
FollowsHeader r content end (Codes place) = (r.coder ≡ 0) × BeginAt content end place
FollowsHeader r content end (Samples decoder) =
    (r.coder ≢ 0) × (decoder ≡ record { mode = slice_mode r; total = length (slice_bytes r content); at = Ok end })

-- The content begins with this header, after the frame's keyframe bit where it is the payload's first, and goes on so.
pub record IsSliceHeaderOf (r : RecordingValue) (content : List ℕ) (first : Bool) (header : SliceHeader) (start : SliceStart) : Type 0 where
  pub fields : List ℕ
  pub end : Coder
  pub coded : IsHeaderOf (slice_mode r) (field_count r.has_alpha) (slice_bytes r content) header.key fields end
  pub has_key : is_some header.key ≡ first
  pub fits : FitsRecording r fields
  pub values : header ≡ slice_header_with r.has_alpha header.key fields
  pub follows : FollowsHeader r content end start

-- ---- the first fault

abbrev pub start_read : RecordingValue → List ℕ → Coder → Result SliceStart HeadFault
start_read r content end =
    if r.coder == 0 then (codes_read content end >>> λ place. Ok (Codes place))
    else Ok (Samples (record { mode = slice_mode r; total = length (slice_bytes r content); at = Ok end }))

-- the fields as a header, or the first fault of them
abbrev pub slice_header_judged : RecordingValue → Option Bool → List ℕ → Result SliceHeader HeadFault
slice_header_judged r key fields =
    if nat_le (slice_index fields 0 + (slice_index fields 2 + 1)) r.setup.across && nat_le (slice_index fields 1 + (slice_index fields 3 + 1)) r.setup.down
    then (if list_all (λ table. nat_lt table (length r.setup.sets)) (table_indexes r.has_alpha fields)
    then Ok (slice_header_with r.has_alpha key fields)
    else Err TableIndex)
    else Err OutsideGrid

-- the header and how the slice goes on, or the first fault
abbrev pub slice_header_read : RecordingValue → List ℕ → Bool → Result (SliceHeader × SliceStart) HeadFault
slice_header_read r content first =
    header_read Version3 (slice_mode r) (field_count r.has_alpha) (slice_bytes r content) first >>> λ read.
    start_read r content read.end >>> λ start.
    slice_header_judged r read.key read.fields >>> λ header.
    Ok (header, start)
