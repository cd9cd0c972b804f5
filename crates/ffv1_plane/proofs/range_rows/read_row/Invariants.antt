use Rattle.std.proofs.Common.{◌≡◌, ◌<◌, ◌^◌, ℕ, IsOk, slice_index}
use Rattle.ffv1_range.specs.Setup.{set_entry}
use Rattle.ffv1_plane.specs.Samples.{coding_at}
use Rattle.ffv1_plane.specs.Inner.Rows.{IsLeftOfNext}
use Rattle.ffv1_plane.specs.Inner.RangeRows.{IsSameShape, IsRangeRowRead}
use Rattle.ffv1_plane.proofs.range_rows.read_row.Given as goal

abbrev pub invariant-loop-x : goal.invariant-loop-x
invariant-loop-x l = record {
  same : IsSameShape l.fn.lines l.lines;
  place : l.lines.x ≡ l.x;
  alive : IsOk l.decoder.at;
  left : IsLeftOfNext l.lines l.left;
  small : (s : ℕ) → slice_index l.lines.samples s < 2 ^ l.fn.lines.depth;
  read : (group : ℕ) → group < 3 → IsRangeRowRead l.fn.lines.width (coding_at l.fn.lines.depth (set_entry l.fn.tables.setup l.fn.tables.set)) group
      l.fn.is_signed l.fn.lines.samples l.fn.states l.fn.decoder l.lines.samples l.states l.decoder l.x;
}
