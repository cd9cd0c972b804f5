use Rattle.std.proofs.Common.{rules, w32}
use mir.Val.{SFits}
use Rattle.std.proofs.lemmas.Int.{to_z-of_z}
use Rattle.ffv1_plane.proofs.Contexts.{context_fits}
use Rattle.ffv1_plane.proofs.tables.Tables.context.Goals as goal

pub returns-clause-bound : goal.returns-clause-bound
returns-clause-bound c =
    let fits : SFits w32 c.sum.result = search rules in
    rw (to_z-of_z w32 c.sum.result fits, c.sum.ensures) (rw (← c.self.view_is)
    (context_fits c.self.inside.recording.now.setup c.self.inside.set c.args.near.now c.self.invariant.contexts c.self.invariant.there))
