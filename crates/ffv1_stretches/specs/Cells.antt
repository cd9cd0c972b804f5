-- What the copies have of a stretch (own).
use Rattle.std.specs.Prelude.{ℕ, ◌≡◌, List, Option, Some, None, drop, map, slice_index_or, take}
use Rattle.std.specs.List.{filter_map, zip}
use Rattle.ffv1_mend.specs.Mended.{MendedValue, IsMendOf}
use Rattle.ffv1_stretches.specs.Stretches.{StretchValue}

-- what a file has of a stretch of so many bytes, if it has it, at this place
abbrev pub cell_of : ℕ → List ℕ → Option ℕ → Option (List ℕ)
cell_of size file None = None
cell_of size file (Some place) = Some (take size (drop place file))

-- The bytes that each copy has of a stretch, if it has it.
abbrev pub cells_of : List (List ℕ) → StretchValue → List (Option (List ℕ))
cells_of files stretch = map (λ pair. cell_of stretch.size pair.0 pair.1) (zip files stretch.places)

-- the versions of a stretch: the bytes of those copies that have it
abbrev pub versions_in : List (Option (List ℕ)) → List (List ℕ)
versions_in cells = filter_map (λ cell. cell) cells

-- What becomes of a stretch of which the copies have this. The version of its copy FROM is taken where nothing vouches for any.
pub record IsStretchMend (cells : List (Option (List ℕ))) (stretch : StretchValue) (mended : MendedValue) : Type 0 where
  pub from : List ℕ
  pub from_is : slice_index_or cells stretch.from None ≡ Some from
  pub mends : IsMendOf stretch.kind (versions_in cells) from stretch.parts mended
