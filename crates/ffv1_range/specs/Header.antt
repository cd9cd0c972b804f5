-- A slice header at the front of a slice's content (RFC 9043, sections 4.5 and 4.6), and the bit that ends range coding
-- before Golomb-Rice codes (section 3.8.1.1.1).
use Rattle.std.specs.Prelude.{◌≡◌, ◌↔◌, ℕ, ◌+◌, ◌-◌, ◌*◌, ◌^◌, ◌<◌, Bool, true, false, IsTrue, List, length, replicate, Option, Some, None, MatchOption, Result, Ok, Err, slice_index, nat_lt, ◌==◌, ◌&&◌, if◌then◌else◌}
use Rattle.std.specs.List.{All, flat_map}
use Rattle.ffv1_range.specs.Results.{◌>>>◌}
use Rattle.ffv1_range.specs.Coding.{header_mode, Mode, Coder, Place, bit_at, start_of, IsRangeRun}
use Rattle.ffv1_range.specs.Symbols.{symbol_bits}
use Rattle.ffv1_range.specs.Forms.{lifted_result}
use Rattle.ffv1_range.specs.HeaderForms.{HeaderRead, header_from}
use Rattle.ffv1_range.specs.Setup.{SetupValue}
use Rattle.ffv1_range.specs.declared.scope.Scope.{Scope}
use Rattle.ffv1_range.specs.declared.scope.Scope.TheVariants.{Profile}
use Rattle.ffv1_range.specs.declared.head.SliceHead.{SliceHead}
use Rattle.ffv1_range.specs.declared.head.HeadFault.{HeadFault}
use Rattle.ffv1_range.specs.declared.head.HeadFault.TheVariants.{Range, OutsideGrid, Spans, TableIndex, FirstElsewhere}

-- These bytes begin with the keyframe bit, where there is one, and so many fields; the coder is then here.
pub record IsHeaderOf (mode : Mode) (count : ℕ) (bytes : List ℕ) (key : Option Bool) (fields : List ℕ) (end : Coder) : Type 0 where
  pub before_key : Coder
  pub start : start_of mode.closed bytes ≡ Ok before_key
  pub after_key : Coder
  pub keyed : MatchOption key (after_key ≡ before_key) (λ bit. bit_at mode.closed before_key 128 ≡ Ok (bit, after_key))
  pub size : length fields ≡ count
  pub fit : All (λ field. field < 2 ^ 32) fields
  pub last : Place
  pub coded : IsRangeRun mode (record { coder = after_key; states = replicate 32 128 }) (flat_map symbol_bits fields) last
  pub is : end ≡ last.coder

-- After a header the bit at state 129 is read, of either value. The codes begin at this place of the content, one byte before those that
-- the range decoder has not read.
pub record BeginAt (content : List ℕ) (end : Coder) (place : ℕ) : Type 0 where
  pub last : Bool × Coder
  pub ended : bit_at false end 129 ≡ Ok last
  pub at : place + 1 + length last.1.rest ≡ length content

-- what judges a header: the tiles across and down, and the sets of quantization tables
pub record HeadLimits : Type 0 where
  pub across : ℕ
  pub down : ℕ
  pub sets : ℕ

abbrev pub header_limits : SetupValue → HeadLimits
header_limits setup = record { across = setup.across; down = setup.down; sets = length setup.sets }

-- The fields are those of one tile of the grid, and name table sets of the record.
pub record IsTileHeader (limits : HeadLimits) (fields : List ℕ) : Type 0 where
  pub column : slice_index fields 0 < limits.across
  pub row : slice_index fields 1 < limits.down
  pub width : slice_index fields 2 ≡ 0
  pub height : slice_index fields 3 ≡ 0
  pub luma_table : slice_index fields 4 < limits.sets
  pub chroma_table : slice_index fields 5 < limits.sets

-- slice_x, slice_y, slice_width - 1, slice_height - 1, quant_table_set_index twice, picture_structure, sar_num, sar_den:
-- tiles are counted row by row
abbrev pub head_with : HeadLimits → List ℕ → SliceHead
head_with limits fields =
    record {
      tile = slice_index fields 1 * limits.across + slice_index fields 0;
      table_y = slice_index fields 4;
      table_c = slice_index fields 5;
      picture_structure = slice_index fields 6;
      sar_num = slice_index fields 7;
      sar_den = slice_index fields 8;
    }

-- The content has a header of the profile, and is the payload's first exactly where it is of tile 0.
pub record IsHeadOf (limits : HeadLimits) (content : List ℕ) (first : Bool) (head : SliceHead) (place : ℕ) : Type 0 where
  pub fields : List ℕ
  pub end : Coder
  pub header : IsHeaderOf header_mode 9 content (if first then Some true else None) fields end
  pub codes : BeginAt content end place
  pub of_tile : IsTileHeader limits fields
  pub values : head ≡ head_with limits fields
  pub first_tile : IsTrue first ↔ (head.tile ≡ 0)

-- ---- the first fault

-- what is read of a header
abbrev pub header_read : Scope → Mode → ℕ → List ℕ → Bool → Result HeaderRead HeadFault
header_read scope mode count bytes first = lifted_result Range (start_of mode.closed bytes) >>> header_from scope mode count first

-- the place of the codes after it
abbrev pub codes_read : List ℕ → Coder → Result ℕ HeadFault
codes_read content end = lifted_result Range (bit_at false end 129) >>> λ last. Ok (length content - (length last.1.rest + 1))

-- whether a content is where its tile has to be: that of tile 0 first, others not
abbrev pub is_in_place : Bool → ℕ → Bool
is_in_place true tile = tile == 0
is_in_place false tile = nat_lt 0 tile

-- the fields as a head, or the first fault of them
abbrev pub head_judged : HeadLimits → Bool → List ℕ → Result SliceHead HeadFault
head_judged limits first fields =
    if nat_lt (slice_index fields 0) limits.across && nat_lt (slice_index fields 1) limits.down
    then (if slice_index fields 2 == 0 && slice_index fields 3 == 0
    then (if nat_lt (slice_index fields 4) limits.sets && nat_lt (slice_index fields 5) limits.sets
    then (if is_in_place first (slice_index fields 1 * limits.across + slice_index fields 0) then Ok (head_with limits fields) else Err FirstElsewhere)
    else Err TableIndex)
    else Err Spans)
    else Err OutsideGrid

-- the head and the place of the codes, or the first fault
abbrev pub head_read : HeadLimits → List ℕ → Bool → Result (SliceHead × ℕ) HeadFault
head_read limits content first =
    header_read Profile header_mode 9 content first >>> λ read.
    codes_read content read.end >>> λ place.
    head_judged limits first read.fields >>> λ head.
    Ok (head, place)
