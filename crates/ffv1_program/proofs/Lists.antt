-- Lists of no words.
use Rattle.std.proofs.Common.{◌≡◌, ℕ, List, [], ◌∷◌, length, Bor, Option, refl, arith}
use Rattle.ffv1_program.specs.Running.{bytes_of_all}

-- of no words there are no bytes
pub none_given : (bytes_at : List ℕ → Option (List ℕ)) (words : List (Bor (List ℕ))) → length words ≡ 0 → bytes_of_all bytes_at words ≡ []
none_given bytes_at [] none = refl
none_given bytes_at (word ∷ words) none = absurd (omega arith)
