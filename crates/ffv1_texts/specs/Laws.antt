-- A text has one reading.
use Rattle.std.specs.Prelude.{ℕ, ◌≡◌, List}
use Rattle.ffv1_texts.specs.Lines.{AreLines}
use Rattle.ffv1_texts.specs.Words.{AreWords}

-- The same text has the same lines.
abbrev pub OneReadingOfLines : Type 0
OneReadingOfLines = (text : List ℕ) (one other : List (List ℕ)) → AreLines text one → AreLines text other → one ≡ other

-- The same line has the same words.
abbrev pub OneReadingOfWords : Type 0
OneReadingOfWords = (line : List ℕ) (one other : List (List ℕ)) → AreWords line one → AreWords line other → one ≡ other
