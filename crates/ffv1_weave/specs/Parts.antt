-- Bytes that are written over others.
use Rattle.std.specs.Prelude.{ℕ, ◌+◌, List, ◌++◌, length, take, drop}

-- bytes with a byte string written over them from a place on
abbrev pub written : List ℕ → ℕ → List ℕ → List ℕ
written bytes start choice = take start bytes ++ (choice ++ drop (start + length choice) bytes)
