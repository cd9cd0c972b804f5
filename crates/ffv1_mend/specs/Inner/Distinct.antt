-- Versions, each once.
use Rattle.std.specs.Prelude.{ℕ, ◌≢◌, List, AllPairs}
use Rattle.ffv1_slice.specs.Members.{HasSameMembers}

pub record AreDistinctOf (versions distinct : List (List ℕ)) : Type 0 where
  pub same : HasSameMembers versions distinct
  pub once : AllPairs (λ one other. one ≢ other) distinct
