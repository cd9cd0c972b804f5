-- The ends of a copy whose footers give one start.
use Rattle.std.specs.Prelude.{ℕ, ◌≤◌, ◌<◌, List}
use Rattle.ffv1_slice.specs.Chain.{FooterGives}

-- no footer that ends from one place on, and before another, gives the start
abbrev pub LacksClaims : List ℕ → (start from before : ℕ) → Type 0
LacksClaims copy start from before = (end : ℕ) → from ≤ end → end < before → FooterGives copy start end → ⊥

-- the first end from a place on, up to the last one, whose footer gives the start
pub record IsFirstClaim (copy : List ℕ) (start from last end : ℕ) : Type 0 where
  pub after : from ≤ end
  pub within : end ≤ last
  pub cut : FooterGives copy start end
  pub none : LacksClaims copy start from end
