-- A place that was found and written over a payload.
use Rattle.std.specs.Prelude.{ℕ, ◌≡◌, ◌+◌, List, Option, MatchOption, length}
use Rattle.ffv1_weave.specs.Parts.{written}
use Rattle.ffv1_splice.specs.Standings.{StandsAs, IsStop}
use Rattle.ffv1_splice.specs.declared.place.Place.{Place}

-- The place that ends there, with its bytes written over those of the payload.
pub record IsPlaced (copies : List (List ℕ)) (end : ℕ) (old new : List ℕ) (place : Place) : Type 0 where
  pub bytes : List ℕ
  pub ends : place.end ≡ end
  pub stands : StandsAs copies place.start end bytes place.standing
  pub size : place.start + length bytes ≡ end
  pub written' : new ≡ written old place.start bytes

-- The place that ends there was written, or no place ends there.
abbrev pub IsPlacedOrStop : List (List ℕ) → (end : ℕ) → (old new : List ℕ) → Option Place → Type 0
IsPlacedOrStop copies end old new found = MatchOption found (IsStop copies end × (new ≡ old)) (IsPlaced copies end old new)
