-- Parts that were added to others.
use Rattle.std.specs.Prelude.{ℕ, ◌≡◌, ◌≤◌, List, ◌++◌, length, take}
use Rattle.std.specs.List.{AllByRecursion, concat}
use Rattle.ebml.specs.Children.{IsChild}
use Rattle.matroska_parts.specs.declared.parts.Part.{Part}
use Rattle.matroska_parts.specs.MasterParts.{EachHasParts}

-- parts like these were added
abbrev pub AddsParts : (List Part → Type 0) → List Part → List Part → Type 0
AddsParts Are old new = (more : List Part) × (new ≡ old ++ more) × Are more

-- those of the children so far were
pub record AddsSoFar (HasParts : ℕ → List ℕ → List Part → Type 0) (ids : List ℕ) (place : ℕ) (content : List ℕ) (at : ℕ) (old new : List Part) : Type 0 where
  pub within : at ≤ length content
  pub children : List (List ℕ)
  pub joined : take at content ≡ concat children
  pub each : AllByRecursion (IsChild ids) children
  pub more : List Part
  pub added : new ≡ old ++ more
  pub have : EachHasParts HasParts place children more
