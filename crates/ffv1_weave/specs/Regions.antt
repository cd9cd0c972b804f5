-- Versions of one slice: what several copies of a frame have at the slice's place, all of one length. They are split into regions
-- where they differ.
use Rattle.std.specs.Prelude.{ℕ, ◌+◌, ◌-◌, ◌<◌, ◌≤◌, ◌≡◌, List, Contains, length, slice_index}
use Rattle.ffv1_weave.specs.declared.regions.TheConstants.{SEPARATION}

-- all versions are as long
abbrev pub HaveLength : List (List ℕ) → ℕ → Type 0
HaveLength versions size = (version : List ℕ) → Contains versions version → length version ≡ size

-- At a place, counted in bytes from the slice's start, all versions have the same byte.
abbrev pub AgreeAt : List (List ℕ) → ℕ → Type 0
AgreeAt versions i = (one other : List ℕ) → Contains versions one → Contains versions other → slice_index one i ≡ slice_index other i

abbrev pub DifferAt : List (List ℕ) → ℕ → Type 0
DifferAt versions i = AgreeAt versions i → ⊥

-- Two successive places where the versions differ are in one region if they are at most `SEPARATION` apart, which is 64. A region goes from its
-- first place, `start`, to its last, `end - 1`. No place where they differ comes before the first and is at most `SEPARATION` from it, and none
-- comes after the last and is at most `SEPARATION` from it. Each place of the region where they differ, but the last, has another one after it in
-- the region, at most `SEPARATION` from it.
pub record IsRegion (versions : List (List ℕ)) (start end : ℕ) : Type 0 where
  pub some : start < end
  pub first : DifferAt versions start
  pub last : DifferAt versions (end - 1)
  pub before : (i : ℕ) → i < start → start ≤ i + SEPARATION → AgreeAt versions i
  pub after : (i : ℕ) → end ≤ i → i < end + SEPARATION → AgreeAt versions i
  pub within : (i : ℕ) → start ≤ i → i + 1 < end → DifferAt versions i
      → (j : ℕ) × (i < j) × (j ≤ i + SEPARATION) × (j < end) × DifferAt versions j
