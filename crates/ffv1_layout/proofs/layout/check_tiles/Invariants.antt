use Rattle.std.proofs.Common.{◌≡◌, length}
use Rattle.ffv1_range.specs.Tiles.{grid_of, tile_count}
use Rattle.ffv1_layout.specs.Layout.{AreApart, headers_of}
use Rattle.ffv1_layout.specs.Inner.Marking.{AreMarksOf}
use Rattle.ffv1_layout.proofs.layout.check_tiles.Given as goal

-- the tiles of the slices so far are marked, each of one slice
abbrev pub invariant-loop-place : goal.invariant-loop-place
invariant-loop-place l = record {
  long : length l.marks.items ≡ tile_count (grid_of l.recording.setup);
  marks : AreMarksOf l.recording.setup.across (headers_of l.placed) l.place l.marks.items;
  apart : AreApart l.recording.setup.across (headers_of l.placed) l.place;
}
