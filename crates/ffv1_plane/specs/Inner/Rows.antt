-- The lines of a reader, as rows of the plane that is read.
use Rattle.std.specs.Prelude.{◌≡◌, ℕ, ◌+◌, ◌/◌, ◌%◌, ◌<◌, ◌≤◌, List, ◌++◌, length, take, drop, get_or, ◌^◌}
use Rattle.ffv1_rice.specs.States.{IsCodedDepth}
use Rattle.ffv1_bits.specs.Limits.{greatest_side}
use Rattle.ffv1_plane.specs.Samples.{sample_at, neighbours_at}

-- What is read: the depth and the width of the plane, the samples so far, and how many of them are in a row that is not
-- ended yet.
pub record RowsRead : Type 0 where
  pub depth : ℕ
  pub width : ℕ
  pub x : ℕ
  pub samples : List ℕ

-- the sample to the left of the next one
abbrev pub left_of : RowsRead → ℕ
left_of r = (neighbours_at r.width r.samples (length r.samples)).left

-- a sample is the one to the left of the next one, where the row has a next one
abbrev pub IsLeftOfNext : RowsRead → ℕ → Type 0
IsLeftOfNext r sample = r.x < r.width → sample ≡ left_of r

-- The sample to the left of the next one is the one above it to the left.
abbrev pub IsLeftAsAbove : RowsRead → Type 0
IsLeftAsAbove r = left_of r ≡ (neighbours_at r.width r.samples (length r.samples)).top_left

-- The cells of a line are those of a row, its borders included. As in Samples, columns and rows are counted from two
-- before the first.
abbrev pub AreCellsOf : ℕ → List ℕ → ℕ → List ℕ → Type 0
AreCellsOf width samples row cells = (column : ℕ) → column < width + 3 → get_or cells column 0 ≡ sample_at width samples column row

-- the samples of the rows that are ended, and of the first x cells of a line
abbrev pub samples_so_far : ℕ → List ℕ → List ℕ → List ℕ
samples_so_far x rows line = rows ++ take x (drop 2 line)

-- Three lines are the row that is read, up to x, the row above it and the one above that, after the rows that are ended.
pub record AreNearLines (depth width x : ℕ) (rows line above far_above : List ℕ) : Type 0 where
  pub deep : IsCodedDepth depth
  pub some : 1 ≤ width
  pub wide : width ≤ greatest_side
  pub within : x ≤ width
  pub whole : length rows % width ≡ 0
  pub small : (s : ℕ) → get_or (samples_so_far x rows line) s 0 < 2 ^ depth
  pub line_long : length line ≡ width + 3
  pub above_long : length above ≡ width + 3
  pub far_above_long : length far_above ≡ width + 3
  pub borders : (column : ℕ) → column < 2 → get_or line column 0 ≡ sample_at width rows column (length rows / width + 2)
  pub is_above : AreCellsOf width rows (length rows / width + 1) above
  pub is_far_above : AreCellsOf width rows (length rows / width) far_above
