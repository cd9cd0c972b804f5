-- What one write of a private call returns, and how it moves the log.
use Rattle.std.specs.Prelude.{ℕ, List, [], take, Result, Ok, Err}
use Rattle.ffv1_devices.specs.Logs.{WriteLog, Writes, StopsWriting}

-- some of the first bytes were written, or none before the sink was given up
abbrev pub WritesSome : {E : Type 0} → Result ℕ E → List ℕ → WriteLog → WriteLog → Type 0
WritesSome (Ok n) bytes old new = Writes old new (take n bytes)
WritesSome (Err e) bytes old new = StopsWriting old new []
