-- Sources that are read whole, and how such a reading stops (own).
use Rattle.std.specs.Prelude.{ℕ, ◌≡◌, ◌+◌, ◌≤◌, ◌⊎◌, List, [], ◌∷◌, length}
use Rattle.std.specs.Io.KnownBytes.{IsAtEnd}
use Rattle.ffv1_bits.specs.Limits.{payload_limit}
use Rattle.ffv1_devices.specs.Logs.{ReadLog, Reads, BreaksOff}

-- These bytes were read to the end of their source, and are not too many.
pub record TakesWhole (old new : ReadLog) (bytes : List ℕ) : Type 0 where
  pub read : Reads old new bytes
  pub end : IsAtEnd new.remaining
  pub few : length bytes ≤ payload_limit

-- Reading stopped within the limit.
abbrev pub StopsWithin : ReadLog → ReadLog → Type 0
StopsWithin old new = (bytes : List ℕ) × Reads old new bytes × (length bytes ≤ payload_limit)

-- The source was given up within the limit.
abbrev pub GivesUpWithin : ReadLog → ReadLog → Type 0
GivesUpWithin old new = (bytes : List ℕ) × BreaksOff old new bytes × (length bytes ≤ payload_limit)

-- The source was given up within the limit, or passed it by one byte.
abbrev pub IsUnread : ReadLog → ReadLog → Type 0
IsUnread old new = GivesUpWithin old new ⊎ ((bytes : List ℕ) × Reads old new bytes × (length bytes ≡ payload_limit + 1))

-- ---- sources that are read in turn

-- Each of the first sources was read whole, as these payloads, and the others are as they were.
abbrev pub AreReadInTurn : (old new : List ReadLog) → List (List ℕ) → Type 0
AreReadInTurn old new [] = new ≡ old
AreReadInTurn (old ∷ olds) (new ∷ news) (payload ∷ payloads) = TakesWhole old new payload × AreReadInTurn olds news payloads
AreReadInTurn _ _ _ = ⊥

-- The same, and the source after them went so.
abbrev pub AreReadUpTo : (Went : ReadLog → ReadLog → Type 0) → (old new : List ReadLog) → List (List ℕ) → Type 0
AreReadUpTo Went (old ∷ olds) (new ∷ news) [] = Went old new × (news ≡ olds)
AreReadUpTo Went (old ∷ olds) (new ∷ news) (payload ∷ payloads) = TakesWhole old new payload × AreReadUpTo Went olds news payloads
AreReadUpTo Went _ _ _ = ⊥

-- The first source went so.
abbrev pub FirstWent : (Went : ReadLog → ReadLog → Type 0) → (old new : List ReadLog) → Type 0
FirstWent Went (old ∷ olds) (new ∷ news) = Went old new
FirstWent Went _ _ = ⊥
