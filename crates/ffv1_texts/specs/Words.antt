-- The words of a line (own).
use Rattle.std.specs.Prelude.{ℕ, ◌≢◌, List, [], ◌∷◌, ◌++◌}
use Rattle.std.specs.List.{AllByRecursion}

-- no space is among the bytes
abbrev pub HasNoSpace : List ℕ → Type 0
HasNoSpace bytes = AllByRecursion (λ b. b ≢ 32) bytes

-- The words of a line, with one space between each two. A word may be empty.
pub data AreWords : List ℕ → List (List ℕ) → Type 0 where
  last : {word : List ℕ} → HasNoSpace word → AreWords word (word ∷ [])
  more : {word rest : List ℕ} {words : List (List ℕ)} → HasNoSpace word → AreWords rest words → AreWords (word ++ 32 ∷ rest) (word ∷ words)
