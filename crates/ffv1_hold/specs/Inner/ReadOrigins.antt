-- How a digest of a holding file is read.
use Rattle.std.specs.Prelude.{ℕ, ◌≡◌, List, [], ◌∷◌, ◌++◌, Option}
use Rattle.ffv1_devices.specs.Logs.{ReadLog}
use Rattle.ffv1_hold.specs.declared.file_fault.HoldFileFault.{HoldFileFault}
use Rattle.ffv1_hold.specs.declared.file_fault.HoldFileFault.TheVariants as faults
use Rattle.ffv1_hold.specs.Inner.Reading.{TakesText}
use Rattle.ffv1_hold.specs.FileEntries.{last_of, FollowsDigest, IsDigest}

-- a digest that does not stand after the last one
abbrev pub DigestShows : Option (List ℕ) → HoldFileFault → List ℕ → Type 0
DigestShows last faults.Order s = IsDigest s × (¬ FollowsDigest last s)
DigestShows last _ s = ⊥

-- A digest that stands after the last one was taken, and stands after the others.
pub record TakesDigest (old new : ReadLog) (from to : ℕ) (before after : List (List ℕ)) : Type 0 where
  pub digest : List ℕ
  pub is : IsDigest digest
  pub follows : FollowsDigest (last_of before) digest
  pub pushed : after ≡ before ++ digest ∷ []
  pub text : TakesText old new from to digest
