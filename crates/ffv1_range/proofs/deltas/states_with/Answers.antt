use Rattle.std.proofs.lemmas.List.FromFn.{fill_by_all}
use Rattle.std.proofs.Common.{arith}
use Rattle.ffv1_range.specs.Inner.TableForms.{state_with, states_with}
use Rattle.ffv1_range.proofs.deltas.states_with.Goals as goal

pub returns : goal.returns
unfolding states_with
returns c =
    fill_by_all (state_with c.args.before.now c.args.deltas.now) c.loop-k.states 32 0 c.loop-k.invariant.size (λ j h. c.loop-k.invariant.filled j (omega arith))
