use Rattle.std.proofs.Common.{ℕ, ℤ, List, ◌≡◌, ◌*◌, ◌<◌, ◌++◌, length, slice_index, ◌^◌}
use Rattle.ffv1_plane.specs.Samples.{plane_of, coding_at}
use Rattle.ffv1_range.specs.Setup.{set_entry}
use Rattle.ffv1_plane.specs.Progress.{AreStatesAfter}
use Rattle.ffv1_plane.specs.Inner.Progress.{AreRowsRead}
use Rattle.ffv1_plane.proofs.plane.decode_plane.Given as goal

abbrev pub invariant-loop : goal.invariant-loop
invariant-loop l = record {
  read : (earlier : ℕ → List ℤ) → AreStatesAfter l.depth earlier l.fn.states.items
      → (more : List ℕ) → AreRowsRead earlier (plane_of l.width (coding_at l.depth (set_entry l.tables.setup l.tables.set)) (l.reader.lines.samples ++ more))
      l.counter l.fn.bits.left l.reader.index l.reader.states.items l.reader.bits.left;
  depth : l.reader.lines.depth ≡ l.depth;
  width : l.reader.lines.width ≡ l.width;
  tables : l.reader.tables.now ≡ l.tables;
  states : length l.reader.states.items ≡ length l.fn.states.items;
  start : l.reader.lines.x ≡ 0;
  size : length l.reader.lines.samples ≡ l.counter * l.width;
  small : (s : ℕ) → slice_index l.reader.lines.samples s < 2 ^ l.depth;
}
