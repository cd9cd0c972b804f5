use Rattle.std.proofs.Common.{◌≡◌, arith, subst}
use Rattle.std.proofs.lemmas.Int.{ints}
use Rattle.ffv1_range.specs.Setup.{set_entry}
use Rattle.ffv1_plane.specs.Samples.{SamplesAbout, modular_difference, context_of}
use Rattle.ffv1_plane.proofs.tables.Tables.sum.Goals as goal

pub returns : goal.returns
unfolding context_of
returns c =
    let P : SamplesAbout → Type 0 = λ n. c.entry.result ≡ set_entry c.args.self.now.setup c.args.self.now.set 0 (modular_difference n.left n.top_left) in
    let Q : SamplesAbout → Type 0 = λ n. c.entry-2.result ≡ set_entry c.args.self.now.setup c.args.self.now.set 1 (modular_difference n.top_left n.top) in
    rw (← subst P c.near.view_is c.entry.ensures.entry, ← subst Q c.near.view_is c.entry-2.ensures.entry) (omega (arith, ints, c.add_far.ensures))
