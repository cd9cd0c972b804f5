-- How finely versions are parted, and what is taken in each part.
use Rattle.std.specs.Prelude.{ℕ, ◌≤◌, ◌≡◌, List, [], ◌∷◌, Contains, slice_range}
use Rattle.ffv1_weave.specs.Numbers.{AreNumbered}
use Rattle.ffv1_weave.specs.Regions.{IsRegion}
use Rattle.ffv1_weave.specs.Boundaries.{IsSegment}
use Rattle.ffv1_weave.specs.declared.splits.Split.{Split}
use Rattle.ffv1_weave.specs.declared.splits.Split.TheVariants.{Pairs, Regions, Most}

-- A part by a split, from its start up to its end: a segment between the boundaries at a distance, or a region.
abbrev pub IsPartBy : Split → List (List ℕ) → ℕ → ℕ → Type 0
IsPartBy (Pairs distance) versions start end = IsSegment distance versions start end
IsPartBy Regions versions start end = IsRegion versions start end
IsPartBy (Most distance) versions start end = IsSegment distance versions start end

-- what some version has between two places
abbrev pub IsChoiceOf : List (List ℕ) → (start end : ℕ) → List ℕ → Type 0
IsChoiceOf versions start end choice = (version : List ℕ) × Contains versions version × (choice ≡ slice_range version start end)

-- A version that has this between two places.
pub record HasChoice (versions : List (List ℕ)) (start end : ℕ) (choice version : List ℕ) : Type 0 where
  pub there : Contains versions version
  pub has : choice ≡ slice_range version start end

-- No other byte string stands between two places in more versions. Versions that are equal count as one.
pub record IsMost (versions : List (List ℕ)) (start end : ℕ) (choice : List ℕ) : Type 0 where
  pub count : ℕ
  pub have : AreNumbered (HasChoice versions start end choice) count
  pub others : (other : List ℕ) (more : ℕ) → AreNumbered (HasChoice versions start end other) more → more ≤ count

-- What is taken in a part: what some version has there, or what most versions have.
abbrev pub IsChoiceBy : Split → List (List ℕ) → (start end : ℕ) → List ℕ → Type 0
IsChoiceBy (Pairs distance) versions start end choice = IsChoiceOf versions start end choice
IsChoiceBy Regions versions start end choice = IsChoiceOf versions start end choice
IsChoiceBy (Most distance) versions start end choice = IsChoiceOf versions start end choice × IsMost versions start end choice

-- the splits by which versions are woven, finest first
abbrev pub splits : List Split
splits = Pairs 0 ∷ Pairs 2 ∷ Pairs 8 ∷ Pairs 64 ∷ Regions ∷ []

-- the splits by which they vote, finest first
abbrev pub votes : List Split
votes = Most 0 ∷ Most 2 ∷ Most 8 ∷ Most 64 ∷ []
