-- The lines of a text (own).
use Rattle.std.specs.Prelude.{ℕ, ◌≢◌, ◌<◌, List, [], ◌∷◌, ◌++◌, length}
use Rattle.std.specs.List.{AllByRecursion}

-- no line feed is among the bytes
abbrev pub HasNoFeed : List ℕ → Type 0
HasNoFeed bytes = AllByRecursion (λ b. b ≢ 10) bytes

-- The lines of a text. A line feed ends each; only the last may go without, where it has bytes.
pub data AreLines : List ℕ → List (List ℕ) → Type 0 where
  none : AreLines [] []
  ended : {line rest : List ℕ} {lines : List (List ℕ)} → HasNoFeed line → AreLines rest lines → AreLines (line ++ 10 ∷ rest) (line ∷ lines)
  last : {line : List ℕ} → HasNoFeed line → 0 < length line → AreLines line (line ∷ [])
