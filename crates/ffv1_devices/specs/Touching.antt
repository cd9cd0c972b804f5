-- A sink that is not touched before its first byte.
use Rattle.std.specs.Prelude.{ℕ, ◌≡◌, ◌<◌, ◌⊎◌, List, length}
use Rattle.ffv1_devices.specs.Logs.{WriteLog, Writes}

-- A sink is as it was, or some bytes, one at least, were written to it.
abbrev pub WritesIfTouched : {S : Type 0} → (log : S → WriteLog) → (old new : S) → Type 0
WritesIfTouched log old new = (new ≡ old) ⊎ ((bytes : List ℕ) × (0 < length bytes) × Writes (log old) (log new) bytes)
