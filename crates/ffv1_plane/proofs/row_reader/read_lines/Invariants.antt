use Rattle.std.proofs.Common.{◌≡◌, List, ◌++◌}
use Rattle.ffv1_plane.specs.Lines.{Line}
use Rattle.ffv1_plane.specs.RangeSlices.{lines_of}
use Rattle.ffv1_plane.specs.Inner.Orders.{lines_left}
use Rattle.ffv1_plane.specs.Inner.InTurn.{HaveGrown, AreReadInTurn}
use Rattle.ffv1_plane.proofs.Orders.{AreNext}
use Rattle.ffv1_plane.proofs.row_reader.read_lines.Given as goal

abbrev pub invariant-loop-line : goal.invariant-loop-line
invariant-loop-line g l = record {
  done : List Line;
  order : lines_of l.is_rgb l.sizes ≡ done ++ lines_left l.line-iterator;
  next : AreNext done (lines_left l.line-iterator);
  grown : HaveGrown done l.fn.planes.lines.items l.planes.lines.items;
  can : g.R.RowReader.can_read l.planes l.reader;
  read : AreReadInTurn g.R.RowReader.reads done l.fn.planes l.fn.reader l.planes l.reader;
}
