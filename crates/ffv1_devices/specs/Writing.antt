-- What a write that failed left in its sink.
use Rattle.std.specs.Prelude.{ℕ, ◌≡◌, ◌++◌, List, Option}
use Rattle.std.specs.Io.KnownBytes.{Appends}

-- a front of the bytes was written
pub record WritesFront (old new : Option (List ℕ)) (bytes : List ℕ) : Type 0 where
  pub done : List ℕ
  pub rest : List ℕ
  pub split : bytes ≡ done ++ rest
  pub written : Appends old new done
