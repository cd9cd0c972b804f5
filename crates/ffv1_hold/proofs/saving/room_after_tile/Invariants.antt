use Rattle.ffv1_hold.proofs.Common.{◌≡◌, ◌+◌, take, tile_file_entries, entries_length}
use Rattle.ffv1_hold.proofs.saving.room_after_tile.Given as goal

-- What is left, and the entries so far, are the room.
abbrev pub invariant-loop-place : goal.invariant-loop-place
invariant-loop-place g l = l.left + entries_length (take l.place (tile_file_entries l.holding l.tile)) ≡ l.fn.room
