-- How a chain ends (own: what stands before the last slice that can be reached is given by its place).
use Rattle.std.specs.Prelude.{ℕ, ◌≤◌, List}
use Rattle.ffv1_slice.specs.Chain.{IsEnd}
use Rattle.ffv1_slice.specs.declared.chain.ChainEnd.{ChainEnd}
use Rattle.ffv1_slice.specs.declared.chain.ChainEnd.TheVariants.{Whole, Broken}

-- Whole if the payload's start is an end, else broken at the least end.
abbrev pub EndsAs : List ℕ → ChainEnd → Type 0
EndsAs payload Whole = IsEnd payload 0
EndsAs payload (Broken q) = (IsEnd payload 0 → ⊥) × IsEnd payload q × ((p : ℕ) → IsEnd payload p → q ≤ p)
