-- Range-coded lines of several planes (RFC 9043, sections 3.8.1.2 and 4.7): the bits of each line stand after those of the line before it
-- in coded order, at the rows of states of its plane's group.
use Rattle.std.specs.Prelude.{ℕ, List}
use Rattle.std.specs.List.{flat_map}
use Rattle.ffv1_range.specs.Rows.{RowBits}
use Rattle.ffv1_plane.specs.Lines.{Line}
use Rattle.ffv1_plane.specs.RangeRows.{RangePlane, row_bits}

abbrev pub line_bits : (ℕ → RangePlane) → Line → List RowBits
line_bits planes line = row_bits (planes line.plane) line.row

abbrev pub lines_bits : (ℕ → RangePlane) → List Line → List RowBits
lines_bits planes lines = flat_map (line_bits planes) lines
