-- How a tile stands (own): which of its slices count, by their error_status (RFC 9043, section 4.9.2).
use Rattle.std.specs.Prelude.{◌≡◌, ◌<◌, ◌≤◌, ℕ, slice_index_or, Option, Some, None, ◌+◌, nat_le, List, [], ◌∷◌, length, filter}
use Rattle.std.specs.List.{list_all, range_with_len, flat_map}
use Rattle.ffv1_holding.specs.Sets as set
use Rattle.ffv1_holding.specs.Contents.{Contents}
use Rattle.ffv1_slice.specs.Chain.{status_before}
use Rattle.ffv1_holding.specs.Reels.{reel_tiles}
use Rattle.ffv1_holding.specs.TileSets.{tile_slices}

-- what the footer of a whole slice says of it: 0 no error, 1 a correctable one, 2 an uncorrectable one (RFC 9043, section 4.9.2)
abbrev pub status_of : List ℕ → ℕ
status_of slice = status_before slice (length slice)

-- those of the least error_status
abbrev pub best_slices : List (List ℕ) → List (List ℕ)
best_slices slices = filter (λ b. list_all (λ c. nat_le (status_of b) (status_of c)) slices) slices

-- how a tile stands: no slice, one best slice, or several
pub data StateOfTile : Type 0 where
  missing : StateOfTile
  settled : (slice : List ℕ) → StateOfTile
  disputed : (slices : ℕ) → StateOfTile

abbrev pub state_of_best : List (List ℕ) → StateOfTile
state_of_best [] = missing
state_of_best (b ∷ []) = settled b
state_of_best (b ∷ c ∷ more) = disputed (length more + 2)

abbrev pub tile_state_of : List (List ℕ) → StateOfTile
tile_state_of slices = state_of_best (best_slices slices)

-- how a tile of a holding stands
abbrev pub tile_state : Contents → ℕ → StateOfTile
tile_state h tile = tile_state_of (set.items (tile_slices h.slices tile))

-- the bytes of a settled slice
abbrev pub settled_bytes : StateOfTile → List ℕ
settled_bytes missing = []
settled_bytes (settled slice) = slice
settled_bytes (disputed slices) = []

abbrev pub IsSettled : StateOfTile → Type 0
IsSettled missing = ⊥
IsSettled (settled slice) = Unit {0}
IsSettled (disputed slices) = ⊥

-- the settled slices joined in tile order
abbrev pub restored_payload : Contents → List ℕ
restored_payload h = flat_map (λ tile. settled_bytes (tile_state h tile)) (range_with_len 0 (reel_tiles h.reel))

-- the least error_status of slices, if there are any
pub record HasLeastStatus (slices : List (List ℕ)) (least : ℕ) : Type 0 where
  pub low : (i : ℕ) (d : List ℕ) → i < length slices → least ≤ status_of (slice_index_or slices i d)
  pub at : ℕ
  pub in_range : at < length slices
  pub met : (d : List ℕ) → status_of (slice_index_or slices at d) ≡ least

abbrev pub IsLeastStatus : List (List ℕ) → Option ℕ → Type 0
IsLeastStatus slices None = slices ≡ []
IsLeastStatus slices (Some least) = HasLeastStatus slices least

-- every tile is settled
abbrev pub AreSettled : Contents → Type 0
AreSettled h = (tile : ℕ) → tile < reel_tiles h.reel → IsSettled (tile_state h tile)

-- the first tile that isn't settled
pub record IsLeastUnsettled (h : Contents) (tile : ℕ) : Type 0 where
  pub in_grid : tile < reel_tiles h.reel
  pub unsettled : ¬ IsSettled (tile_state h tile)
  pub before : (t : ℕ) → t < tile → IsSettled (tile_state h t)
