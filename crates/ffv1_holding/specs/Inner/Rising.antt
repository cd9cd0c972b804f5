-- Places in lists that rise.
use Rattle.std.specs.Prelude.{◌≡◌, ℕ, ◌<◌, ◌≤◌, List, length, slice_index_or}
use Rattle.std.specs.declared.cmp.Ordering.{Ordering}
use Rattle.std.specs.declared.cmp.Ordering.TheVariants.{Less, Greater}

-- the item at the place is x
pub record IsPlaceOf {K : Type 0} (xs : List K) (x : K) (place : ℕ) : Type 0 where
  pub in_range : place < length xs
  pub is_there : (d : K) → slice_index_or xs place d ≡ x

-- x would go at the place: what is below it before, and what is above it from there on
pub record IsInsertionPlace {K : Type 0} (R : K → K → Ordering) (xs : List K) (x : K) (place : ℕ) : Type 0 where
  pub in_range : place ≤ length xs
  pub below : (j : ℕ) (d : K) → j < place → R (slice_index_or xs j d) x ≡ Less
  pub above : (j : ℕ) (d : K) → place ≤ j → j < length xs → R (slice_index_or xs j d) x ≡ Greater
