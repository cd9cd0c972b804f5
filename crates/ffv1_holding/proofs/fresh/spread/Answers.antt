use Rattle.std.proofs.Common.{◌≤◌, ◌+◌, ◌∙◌, sym, subst, length, vec_capacity, arith}
use Rattle.ffv1_holding.proofs.fresh.spread.Goals as goal

pub interleave-requires-clause-room : goal.interleave-requires-clause-room
interleave-requires-clause-room g c = c.deref_mut.ensures.len ∙ (rw c.unwrap.ensures at c.resize.ensures.len)

pub interleave-requires-clause-places : goal.interleave-requires-clause-places
interleave-requires-clause-places g c i d lt = omega (arith, c.requires.places i d lt, c.len-held.ensures)

pub interleave-requires-clause-rising : goal.interleave-requires-clause-rising
interleave-requires-clause-rising g c = c.requires.rising

pub unwrap-requires : goal.unwrap-requires
unwrap-requires g c = c.resize.ensures.succeeds (subst (λ n. n + length c.args.fresh.now ≤ vec_capacity c.args.items.now) (sym c.len-held.ensures) c.requires.room)
