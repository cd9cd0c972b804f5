-- What a slice's header keeps of its recording.
use Rattle.std.specs.Prelude.{◌≡◌, ◌≢◌, false, IsOk, Ok, List, ℕ, ◌+◌, ◌<◌, ◌≤◌, length, slice_index}
use Rattle.ffv1_range.specs.Coding.{Coder}
use Rattle.ffv1_range.specs.Setup.{RecordingValue}
use Rattle.ffv1_range.specs.declared.head.SliceHeader.{SliceHeader}
use Rattle.ffv1_range.specs.declared.head.SliceStart.{SliceStart}
use Rattle.ffv1_range.specs.declared.head.SliceStart.TheVariants.{Codes, Samples}

pub record IsHeaderWithin (r : RecordingValue) (header : SliceHeader) : Type 0 where
  pub columns : header.x + header.w ≤ r.setup.across
  pub rows : header.y + header.h ≤ r.setup.down
  pub some_columns : 1 ≤ header.w
  pub some_rows : 1 ≤ header.h
  pub luma : slice_index header.tables 0 < length r.setup.sets
  pub chroma : slice_index header.tables 1 < length r.setup.sets
  pub alpha : slice_index header.tables 2 < length r.setup.sets

-- how a slice goes on, by its coder
abbrev pub IsStartWithin : RecordingValue → List ℕ → SliceStart → Type 0
IsStartWithin r content (Samples decoder) =
    (r.coder ≢ 0) × IsOk decoder.at × (decoder.mode.closed ≡ false) × ((c : Coder) → decoder.at ≡ Ok c → length c.rest ≤ length content + 1)
IsStartWithin r content (Codes place) = (r.coder ≡ 0) × (place ≤ length content)
