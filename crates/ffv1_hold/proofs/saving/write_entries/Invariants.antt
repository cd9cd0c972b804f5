use Rattle.ffv1_hold.proofs.Common.{Writes, Second, file_entries_below, entries_text}
use Rattle.ffv1_hold.proofs.saving.write_entries.Given as goal

-- The entries of the tiles so far were written.
abbrev pub invariant-loop-tile : goal.invariant-loop-tile
invariant-loop-tile g l = Writes (g.S.Sink.log l.initial.sink) (g.S.Sink.log l.sink) (entries_text Second (file_entries_below l.holding l.tile))
