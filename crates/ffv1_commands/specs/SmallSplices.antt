-- What `splice` makes of copies that are read as they were written, as the small definitions have it. What the command does stands in the
-- contract of its function, and need not be read for this.
use Rattle.std.specs.Prelude.{ℕ, ◌≡◌, true, List}
use Rattle.ffv1_splice.specs.Small.{IsJoinedOf, IsSettledAt, IsSplicedFrom}
use Rattle.ffv1_commands.specs.SpliceLaws.{Made, SplicesTo}

-- Where it returns `true`, what it wrote is spliced from the copies.
abbrev pub TrueIsSpliced : Type 0
TrueIsSpliced = (copies : List (List ℕ)) (made : Made) → SplicesTo copies made → made.returned ≡ true → IsSplicedFrom copies made.file

-- Where an original is settled from the copies, it wrote the original and returns `true`.
abbrev pub SettledIsMade : Type 0
SettledIsMade =
    (copies : List (List ℕ)) (original : List ℕ) (made : Made) → IsJoinedOf (IsSettledAt copies) copies original → SplicesTo copies made
    → (made.file ≡ original) × (made.returned ≡ true)
