use Rattle.ffv1_plane.proofs.plane.PlaneReader.read_level.Goals as goal

pub neighbours-near-requires : goal.neighbours-near-requires
neighbours-near-requires c = record { inside = c.requires.inside; left = c.left.ensures }

pub returns : goal.returns
returns c = record {
  same = c.read_code.ensures.same;
  index = c.read_code.ensures.index;
  moved = c.read_code.ensures.moved;
  left = c.read_code.ensures.left;
  read = c.read_code.ensures.read;
  err = c.read_code.ensures.err;
}
