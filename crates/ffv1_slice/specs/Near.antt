-- Copies that are near an original: in each slice they differ from it only within 32 bits, and its size field is undamaged.
use Rattle.std.specs.Prelude.{ℕ, ◌+◌, ◌-◌, ◌<◌, ◌≡◌, ◌⊎◌, ◌↔◌, List, length, take, slice_range, slice_index_or}
use Rattle.std.specs.List.{flat_map}
use Rattle.ffv1_bits.specs.Parity.{DifferWithin32, AreBytes}
use Rattle.ffv1_range.specs.TileHeaders.{TileRules}
use Rattle.ffv1_slice.specs.Slices.{IsFoundIn, IsOriginal}

-- the place at which the slice of a tile begins, where slices are joined in tile order; after the last tile, their length
unfoldable pub starts_at : List (List ℕ) → ℕ → ℕ
starts_at slices tile = length (flat_map (λ slice. slice) (take tile slices))

-- what stands in a copy at the places of a tile's slice
abbrev pub version_at : List (List ℕ) → List ℕ → ℕ → List ℕ
version_at slices copy tile = slice_range copy (starts_at slices tile) (starts_at slices (tile + 1))

-- the three bytes of the footer that give a slice's size (RFC 9043, section 4.9.1)
abbrev pub size_field : List ℕ → List ℕ
size_field slice = slice_range slice (length slice - 8) (length slice - 5)

-- Bytes differ from a slice only within 32 consecutive bits, and not in the size field.
pub record IsDamagedWithin32 (slice link : List ℕ) : Type 0 where
  pub at : ℕ
  pub differ : DifferWithin32 slice link at
  pub size : size_field link ≡ size_field slice

-- A copy of an original: it has the original's length, and at each slice's places it is equal to the slice, or damaged within 32 bits.
pub record IsNear (rules : TileRules) (original : List ℕ) (slices : List (List ℕ)) (copy : List ℕ) : Type 0 where
  pub is_original : IsOriginal rules original slices
  pub original_bytes : AreBytes original
  pub copy_bytes : AreBytes copy
  pub same_length : length copy ≡ length original
  pub each : (tile : ℕ) (d : List ℕ) → tile < length slices
      → (version_at slices copy tile ≡ slice_index_or slices tile d) ⊎ IsDamagedWithin32 (slice_index_or slices tile d) (version_at slices copy tile)

-- A tile's slice is intact in a copy: it stands there at its places.
abbrev pub IsIntactIn : List (List ℕ) → List ℕ → ℕ → List ℕ → Type 0
IsIntactIn slices copy tile slice = version_at slices copy tile ≡ slice

-- ---- laws

-- In a copy that is near an original exactly the original's intact slices are found, each of its tile.
abbrev pub NearFound : Type 0
NearFound =
    (rules : TileRules) (original : List ℕ) (slices : List (List ℕ)) (copy : List ℕ) → IsNear rules original slices copy → (tile : ℕ) (slice : List ℕ)
    → IsFoundIn rules copy tile slice ↔ ((tile < length slices) × (slice ≡ slice_index_or slices tile slice) × IsIntactIn slices copy tile slice)
