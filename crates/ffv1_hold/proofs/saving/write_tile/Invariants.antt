use Rattle.ffv1_hold.proofs.Common.{take, Writes, Second, entries_text, tile_file_entries}
use Rattle.ffv1_hold.proofs.saving.write_tile.Given as goal

-- The entries so far were written.
abbrev pub invariant-loop-place : goal.invariant-loop-place
invariant-loop-place g l =
    Writes (g.S.Sink.log l.initial.sink) (g.S.Sink.log l.sink) (entries_text Second (take l.place (tile_file_entries l.holding l.tile)))
