-- How an input and the log of a source that it was read by go together.
use Rattle.ffv1_devices.specs.Logs.{ReadLog}

-- An input came from the one to the other while such a source of it went so.
abbrev pub Goes : {C : Type 0} → (C → C → ReadLog → ReadLog → Type 0) → (ReadLog → ReadLog → Type 0) → C → C → Type 0
Goes went Went old new = (a : ReadLog) × (b : ReadLog) × went old new a b × Went a b
