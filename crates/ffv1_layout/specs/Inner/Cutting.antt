-- A payload that is cut from its end: the slices after a place, the last one first.
use Rattle.std.specs.Prelude.{◌≡◌, ℕ, ◌≤◌, List, ◌++◌, length, reverse}
use Rattle.ffv1_layout.specs.Cuts.{AreCutAt}

-- What stands after place q is these slices, from the last one: with those before q they are the payload's, and the payload has no others.
pub record AreCutAfter (footer : ℕ) (payload : List ℕ) (q : ℕ) (later : List (List ℕ)) : Type 0 where
  pub within : q ≤ length payload
  pub whole : (slices : List (List ℕ)) → AreCutAt footer payload q slices → AreCutAt footer payload (length payload) (slices ++ reverse later)
  pub only : (all : List (List ℕ)) → AreCutAt footer payload (length payload) all
      → (slices : List (List ℕ)) × AreCutAt footer payload q slices × (all ≡ slices ++ reverse later)
