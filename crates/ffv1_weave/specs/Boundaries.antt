-- Boundaries of versions: where the places at which some two of them differ begin and end. Segments lie between boundaries.
use Rattle.std.specs.Prelude.{ℕ, ◌+◌, ◌<◌, ◌≤◌, ◌≡◌, ◌⊎◌, List, Contains, length, slice_index}

-- Places at which two versions differ are of one streak where they follow each other at most a distance apart. A streak begins at a place:
-- they differ there, and agree at so many places before it.
pub record BeginsStreak (distance : ℕ) (one other : List ℕ) (place : ℕ) : Type 0 where
  pub differ : slice_index one place ≡ slice_index other place → ⊥
  pub before : (i : ℕ) → i < place → place ≤ i + distance → slice_index one i ≡ slice_index other i

-- A streak ends before a place: they differ at the place before it, and agree at so many places from it on.
pub record EndsStreak (distance : ℕ) (one other : List ℕ) (place : ℕ) : Type 0 where
  pub last : ℕ
  pub next : place ≡ last + 1
  pub differ : slice_index one last ≡ slice_index other last → ⊥
  pub after : (i : ℕ) → place ≤ i → i < place + distance → slice_index one i ≡ slice_index other i

-- A streak of two versions begins at a place, or ends before it.
abbrev pub AreParted : ℕ → List ℕ → List ℕ → ℕ → Type 0
AreParted distance one other place = BeginsStreak distance one other place ⊎ EndsStreak distance one other place

-- A boundary: a streak of some two versions begins at the place, or ends before it.
pub record IsBoundary (distance : ℕ) (versions : List (List ℕ)) (place : ℕ) : Type 0 where
  pub one : List ℕ
  pub other : List ℕ
  pub one_there : Contains versions one
  pub other_there : Contains versions other
  pub parted : AreParted distance one other place

-- A segment, from its start up to its end: both are boundaries, or the ends of the versions, and no boundary lies between.
pub record IsSegment (distance : ℕ) (versions : List (List ℕ)) (start end : ℕ) : Type 0 where
  pub some : start < end
  pub first : (start ≡ 0) ⊎ IsBoundary distance versions start
  pub last : IsBoundary distance versions end ⊎ ((version : List ℕ) × Contains versions version × (end ≡ length version))
  pub within : (i : ℕ) → start < i → i < end → IsBoundary distance versions i → ⊥
