use Rattle.std.proofs.Common.{ap, ◌∙◌, w32, of_z}
use Rattle.std.proofs.lemmas.Int.{to_z-of_z}
use Rattle.ffv1_plane.proofs.Back.{added_is}
use Rattle.ffv1_plane.proofs.neighbours.added.Goals as goal

pub returns : goal.returns
returns c =
    added_is c.args.depth c.args.prediction c.args.change c.cast_unsigned.result c.requires c.ranges.change
    (c.cast_unsigned.ensures ∙ ap (of_z w32) (to_z-of_z w32 c.args.change c.ranges.change))
