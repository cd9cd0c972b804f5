use Rattle.std.proofs.Common.{map}
use Rattle.ffv1_holding.specs.Inner.PoolEntries.{entry_in}
use Rattle.ffv1_holding.proofs.FreshSteps.{IsSifted}
use Rattle.ffv1_holding.proofs.fresh.fresh_among.Given as goal

-- of the entries passed so far, just those are listed whose slices are not held
abbrev pub invariant-loop-entry : goal.invariant-loop-entry
invariant-loop-entry l = IsSifted (map (entry_in l.held_bytes) l.held) l.bytes l.entries l.entry-index l.fresh.items
