use Rattle.std.proofs.Common.{refl}
use Rattle.ffv1_rice.proofs.Windows.{suffix_at, small_place, short_number, short_begins}
use Rattle.ffv1_rice.proofs.code.short_in.Goals as goal

pub returns-clause-some : goal.returns-clause-some
returns-clause-some c =
    let bounds = suffix_at c.args.front c.args.zeros c.args.k c.requires.zeros c.requires.parameter c.requires.low c.requires.high in
    let small = small_place c.args.front c.args.zeros c.args.k c.requires.zeros c.requires.parameter c.requires.low c.requires.high in
    short_begins c.args.depth c.args.front c.args.zeros c.args.k _ _ c.requires.zeros c.requires.parameter c.requires.low c.requires.high refl
    (short_number c.args.zeros c.args.k _ c.requires.zeros c.requires.parameter bounds.0 small)
