use Rattle.ffv1_hold.proofs.Common.{◌≡◌, ◌+◌, length, Second, file_entries_below, entries_text}
use Rattle.ffv1_hold.proofs.saving.room_after.Given as goal

abbrev pub invariant-loop-tile : goal.invariant-loop-tile
invariant-loop-tile g l = l.left + length (entries_text Second (file_entries_below l.holding l.tile)) ≡ l.fn.room
