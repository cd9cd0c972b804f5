-- A copy that is read in the order of its stretches.
use Rattle.std.specs.Prelude.{ℕ, ◌+◌, List, []}
use Rattle.ffv1_devices.specs.Logs.{ReadLog}
use Rattle.ffv1_stretches.specs.declared.copy.CopyReader.{CopyReader}

-- What is known of a copy: the log of its source, where the last stretch that was read of it ends, and the room at whose front that stretch
-- lies.
pub record CopyState : Type 0 where
  pub log : ReadLog
  pub end : ℕ
  pub room : List ℕ

abbrev pub state_of : {S : Type 0} → (S → ReadLog) → CopyReader S → CopyState
state_of log copy = record { log = log copy.source; end = copy.place + copy.size; room = copy.room.items }

-- of a source nothing was read yet
abbrev pub unread : ReadLog → CopyState
unread log = record { log = log; end = 0; room = [] }
