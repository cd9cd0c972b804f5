-- Whether the slices that are found in a copy stand there in the order of their tiles (own): a payload is written so, and what is restored is.
use Rattle.std.specs.Prelude.{ℕ, ◌&&◌, nat_lt, Bool, true, List, [], ◌∷◌, map}
use Rattle.ffv1_range.specs.TileHeaders.{TileRules}
use Rattle.ffv1_slice.specs.Slices.{found_slices}

-- Each number is greater than the one after it.
abbrev pub fall : List ℕ → Bool
fall [] = true
fall (tile ∷ []) = true
fall (tile ∷ next ∷ more) = nat_lt next tile && fall (next ∷ more)

-- The tiles of a copy's slices rise, no two being one. Slices are found from its end, so their list falls.
abbrev pub is_in_tile_order : TileRules → List ℕ → Bool
is_in_tile_order rules copy = fall (map (λ slice. slice.0) (found_slices rules copy))
