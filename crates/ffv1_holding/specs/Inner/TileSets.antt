-- Slices kept apart by their tiles: how one comes to them, and their entries in order.
use Rattle.std.specs.Prelude.{ℕ, List, map}
use Rattle.std.specs.List.{flat_map, range_with_len}
use Rattle.std.proofs.Common.{refl}
use Rattle.std.specs.Coded.{Coded, code_by, coded×, coded_ℕ}
use Rattle.ffv1_holding.specs.SliceOrder.{Entry, with_each, entry_cmp, origin_cmp, coded_entry, coded_origin}
use Rattle.ffv1_holding.specs.Sets as set
use Rattle.ffv1_holding.specs.TileSets.{tile_slices}

-- slices of the tiles below a number of them, and where they came from
pub record TileSlices : Type 0 where
  pub tiles : ℕ
  pub slices : set.SetOf entry_cmp
  pub origins : set.SetOf origin_cmp

-- with these slices and origins as well
abbrev pub with_more : TileSlices → set.SetOf entry_cmp → set.SetOf origin_cmp → TileSlices
with_more h slices origins = record { tiles = h.tiles; slices = set.union h.slices slices; origins = set.union h.origins origins }

-- with one slice more, which came from copies of these digests
abbrev pub with_tile_entry : TileSlices → Entry → List (List ℕ) → TileSlices
with_tile_entry h e digests =
    record { tiles = h.tiles; slices = set.insert h.slices e; origins = set.union h.origins (set.from_list (with_each e digests)) }

-- the slices of one tile, as entries
abbrev pub tile_entries : set.SetOf entry_cmp → ℕ → List Entry
tile_entries slices tile = map (λ b. (tile, b)) (set.items (tile_slices slices tile))

-- the entries of the tiles below a number
abbrev pub entries_below : set.SetOf entry_cmp → ℕ → List Entry
entries_below slices n = flat_map (tile_entries slices) (range_with_len 0 n)

abbrev pub coded_tile_slices : Coded TileSlices
coded_tile_slices = code_by (ℕ × (set.SetOf entry_cmp × set.SetOf origin_cmp)) (coded× coded_ℕ (coded× (set.code coded_entry) (set.code coded_origin)))
    (λ h. (h.tiles, (h.slices, h.origins))) (λ p. record { tiles = p.0; slices = p.1.0; origins = p.1.1 }) (λ _. refl)
