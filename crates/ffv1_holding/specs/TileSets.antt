-- Slices kept apart by their tiles.
use Rattle.std.specs.Prelude.{ℕ, ◌==◌, List, map, filter}
use Rattle.std.specs.Ordering.{eq_by_cmp}
use Rattle.ffv1_holding.specs.SliceOrder.{Entry, bytes_cmp, entry_cmp, origin_cmp}
use Rattle.ffv1_holding.specs.Sets as set

-- the slices of one tile, as a set
unfoldable pub tile_slices : set.SetOf entry_cmp → ℕ → set.SetOf bytes_cmp
tile_slices slices tile = set.from_list (map (λ e. e.1) (filter (λ e. e.0 == tile) (set.items slices)))

-- the digests of a slice's origins, in their order
unfoldable pub digests_in : set.SetOf origin_cmp → Entry → List (List ℕ)
digests_in origins e = map (λ o. o.1) (filter (λ o. eq_by_cmp entry_cmp e o.0) (set.items origins))
