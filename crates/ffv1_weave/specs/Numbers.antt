-- How many values of a fact there are.
use Rattle.std.specs.Prelude.{ℕ, ◌<◌, ◌≤◌, ◌≡◌}

-- There are so many values of a fact: they can be numbered from 0 up to the count, each once.
pub record AreNumbered {X : Type 0} (P : X → Type 0) (count : ℕ) : Type 0 where
  pub at : ℕ → X
  pub are : (k : ℕ) → k < count → P (at k)
  pub all : (value : X) → P value → (k : ℕ) × (k < count) × (at k ≡ value)
  pub once : (j k : ℕ) → j < count → k < count → at j ≡ at k → j ≡ k

-- There are more values of a fact than so many: the numbers from 0 up to the count, and the count itself, give one each, and no two the
-- same.
pub record AreMoreThan {X : Type 0} (P : X → Type 0) (count : ℕ) : Type 0 where
  pub at : ℕ → X
  pub are : (k : ℕ) → k ≤ count → P (at k)
  pub once : (j k : ℕ) → j ≤ count → k ≤ count → at j ≡ at k → j ≡ k
