use Rattle.std.proofs.Common.{arith}
use Rattle.std.proofs.lemmas.Int.{ints}
use Rattle.ffv1_rice.proofs.Depths.{powers}
use Rattle.ffv1_plane.proofs.Back.{sample_up, sample_down}
use Rattle.ffv1_plane.proofs.neighbours.sample_of.Goals as goal

pub returns-then-context-lt0 : goal.returns-then-context-lt0
returns-then-context-lt0 c =
    let p = powers c.args.depth c.requires.depth in
    record {
      value = sample_down c.args.depth c.args.context c.args.prediction c.added.result c.args.difference _ c.requires.depth (omega (arith, ints))
          c.requires.range (omega (arith, ints)) c.added.ensures;
      small = c.added.ensures.small;
    }

pub returns-else-context-lt0 : goal.returns-else-context-lt0
returns-else-context-lt0 c =
    let p = powers c.args.depth c.requires.depth in
    record {
      value = sample_up c.args.depth c.args.context c.args.prediction c.added-else-context-lt0.result c.args.difference _ c.requires.depth
          (omega (arith, ints)) c.requires.range (omega (arith, ints)) c.added-else-context-lt0.ensures;
      small = c.added-else-context-lt0.ensures.small;
    }
