-- What a configuration record says of frames of one size, and no word of faults or of their order (RFC 9043, sections 4.2 and 4.3).
use Rattle.std.specs.Prelude.{◌≡◌, ℕ, ◌+◌, ◌*◌, ◌<◌, ◌≤◌, ◌==◌, ◌⊎◌, true, List, length, Ok, unsigned_abs, if◌then◌else◌}
use Rattle.std.specs.List.{All}
use Rattle.ffv1_bits.specs.Limits.{greatest_side, most_tiles}
use Rattle.ffv1_bits.specs.Parity.{RecordPassesParity}
use Rattle.ffv1_range.specs.Coding.{record_mode, Coder, PlaceOf, start_of}
use Rattle.ffv1_range.specs.Rows.{Rows, IsRowsRun}
use Rattle.ffv1_range.specs.Scopes.{delta_count}
use Rattle.ffv1_range.specs.Setup.{RecordingValue, RecordFields, IsSymbol, IsSetFields, fresh_states, record_row_bits, record_content, recording_value}

-- A shift of chroma planes is at most 4, and in RGB 0. That of a gray record is any.
abbrev pub IsShift : RecordFields → ℕ → Type 0
IsShift f shift = IsSymbol shift × (f.chroma_planes ≡ true → shift ≤ (if f.colorspace_type == 0 then 4 else 0))

-- The fields are of version 3, for frames of this width and height.
pub record AreOfVersion3 (width height : ℕ) (f : RecordFields) : Type 0 where
  pub version : f.version ≡ 3
  pub micro_version : (4 ≤ f.micro_version) × IsSymbol f.micro_version
  pub coder_type : f.coder_type ≤ 2
  pub count_of_deltas : length f.state_transition_delta ≡ delta_count f.coder_type
  pub deltas : All (λ delta. IsSymbol (unsigned_abs delta)) f.state_transition_delta
  pub colorspace_type : f.colorspace_type ≤ 1
  pub bits_per_raw_sample : (f.bits_per_raw_sample ≡ 0) ⊎ ((8 ≤ f.bits_per_raw_sample) × (f.bits_per_raw_sample ≤ 16))
  pub chroma_planes : f.colorspace_type ≡ 1 → f.chroma_planes ≡ true
  pub log2_h_chroma_subsample : IsShift f f.log2_h_chroma_subsample
  pub log2_v_chroma_subsample : IsShift f f.log2_v_chroma_subsample
  pub across : f.num_h_slices_less_1 < width
  pub down : f.num_v_slices_less_1 < height
  pub tiles : (f.num_h_slices_less_1 + 1) * (f.num_v_slices_less_1 + 1) ≤ most_tiles
  pub count_of_sets : (1 ≤ length f.sets) × (length f.sets ≤ 8)
  pub sets : All IsSetFields f.sets
  pub ec : f.ec ≤ 1
  pub intra : IsSymbol f.intra

-- The record says this of frames of this width and height: it passes its parity, and such fields are range-coded before that.
pub record IsRecord (config : List ℕ) (width height : ℕ) (r : RecordingValue) : Type 0 where
  pub passes : RecordPassesParity config
  pub is_width : (1 ≤ width) × (width ≤ greatest_side)
  pub is_height : (1 ≤ height) × (height ≤ greatest_side)
  pub fields : RecordFields
  pub are_of_version_3 : AreOfVersion3 width height fields
  pub start : Coder
  pub begins : start_of true (record_content config) ≡ Ok start
  pub end : PlaceOf Rows
  pub coded : IsRowsRun record_mode (record { coder = start; states = fresh_states }) (record_row_bits fields) end
  pub is : r ≡ recording_value width height fields
