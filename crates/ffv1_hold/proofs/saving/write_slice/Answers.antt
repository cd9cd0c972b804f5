use Rattle.ffv1_hold.proofs.Common.{subst, WritesAll}
use Rattle.ffv1_hold.proofs.WrittenParts.{slice_spelled}
use Rattle.ffv1_hold.proofs.saving.write_slice.Goals as goal

pub returns : goal.returns
returns g c =
    subst (WritesAll c.write_pair.result _ _) (slice_spelled (c.args.tile, c.args.slice.now) c.entry_head-head.result c.entry_head-head.ensures)
    c.write_pair.ensures
